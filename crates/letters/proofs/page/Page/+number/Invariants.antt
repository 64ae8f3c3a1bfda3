-- The measure is the number. Assumes nothing.
use Rattle.letters.proofs.page.Page.+number.Given as goal

abbrev pub decreases-number : goal.decreases-number
decreases-number l = l.n
