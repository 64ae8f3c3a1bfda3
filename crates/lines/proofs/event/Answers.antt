-- The ordinal, the answer, the packet, the way. Assumes nothing.
use Rattle.letters.proofs.Pending.{begin, say, room, step, room_all, last}
use Rattle.lines.proofs.LineParts.{four_parts}
use Rattle.lines.proofs.event.Goals as goal

pub million-page-requires : goal.million-page-requires
million-page-requires c =
    let pre = c.requires in
    (room _ _ (say (four_parts _ _ _ _) (begin pre.0)), pre.1, pre.2)

pub answer-page-requires : goal.answer-page-requires
answer-page-requires c = room _ _ (step _ _ (say (four_parts _ _ _ _) (begin c.requires.0)) c.million-page.ensures)

pub packet-page-requires : goal.packet-page-requires
packet-page-requires c =
    let pre = c.requires in
    let one = step _ _ (say (four_parts _ _ _ _) (begin pre.0)) c.million-page.ensures in
    room _ _ (step _ _ one c.answer-page.ensures)

pub way-requires : goal.way-requires
way-requires c =
    let pre = c.requires in
    let one = step _ _ (say (four_parts _ _ _ _) (begin pre.0)) c.million-page.ensures in
    let two = step _ _ one c.answer-page.ensures in
    room_all (step _ _ two c.packet-page.ensures)

pub returns : goal.returns
returns c =
    let one = step _ _ (say (four_parts _ _ _ _) (begin c.requires.0)) c.million-page.ensures in
    let two = step _ _ one c.answer-page.ensures in
    last (step _ _ two c.packet-page.ensures) c.way.ensures
