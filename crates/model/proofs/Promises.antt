-- A term for each promise of specs/Promises.antt. Assumes nothing.
use Rattle.model.specs.Promises.{CasesHold, OthersHold, FourExactly, FormedKept, RefusedSame, WayOut, NineExactly, FailKeeps, Named, TurnsBounded, TurnsCounted, EndsAgree, TenNever, FourPlaces, BoundMet, HistoriesAre, PlacesShown, AgreementTells, TurnsShown, WritableTells, ReadBack, OneWritingEach, ReadingEnds, PiecesMakeWhole, TextFits}
use Rattle.model.proofs.Cases as cases
use Rattle.model.proofs.Opening as opening
use Rattle.model.proofs.Single as single
use Rattle.model.proofs.Named as named_of
use Rattle.model.proofs.Bound as bound
use Rattle.model.proofs.Agreement as agreement
use Rattle.model.proofs.Turns as turns
use Rattle.model.proofs.Places as places
use Rattle.model.proofs.Shown as shown
use Rattle.model.proofs.ReadBack as read_back_of
use Rattle.model.proofs.Had as had
use Rattle.model.proofs.OneWriting as one_writing_of
use Rattle.model.proofs.Pieces as pieces
use Rattle.model.proofs.TextFits as text

pub cases_hold : CasesHold
cases_hold = (cases.tables).0

pub others_hold : OthersHold
others_hold = (cases.tables).1

pub four_exactly : FourExactly
four_exactly = opening.four_exactly

pub formed_kept : FormedKept
formed_kept = single.formed_kept

pub refused_same : RefusedSame
refused_same = single.refused_same

pub way_out : WayOut
way_out = single.way_out

pub nine_exactly : NineExactly
nine_exactly = single.nine_exactly

pub fail_keeps : FailKeeps
fail_keeps = single.fail_keeps

pub named : Named
named = named_of.named

pub turns_bounded : TurnsBounded
turns_bounded = bound.bound

pub turns_counted : TurnsCounted
turns_counted = turns.turns_counted

pub ends_agree : EndsAgree
ends_agree = agreement.ends_agree

pub ten_never : TenNever
ten_never = agreement.ten_never

pub four_places : FourPlaces
four_places = places.four_places

pub bound_met : BoundMet
bound_met = shown.bound_met

pub histories_are : HistoriesAre
histories_are = shown.histories_are

pub places_shown : PlacesShown
places_shown = shown.places_shown

pub agreement_tells : AgreementTells
agreement_tells = shown.agreement_tells

pub turns_shown : TurnsShown
turns_shown = shown.turns_shown

pub writable_tells : WritableTells
writable_tells = shown.writable_tells

pub read_back : ReadBack
read_back = read_back_of.read_back

pub one_writing : OneWritingEach
one_writing = one_writing_of.one_writing

pub reading_ends : ReadingEnds
reading_ends = had.reading_ends

pub pieces_make_whole : PiecesMakeWhole
pieces_make_whole = pieces.pieces

pub text_fits : TextFits
text_fits = text.text_fits
