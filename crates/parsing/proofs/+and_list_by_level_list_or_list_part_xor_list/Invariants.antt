-- or-list, xor-list, and-list and part: the bytes left fall with each call, and at one place the levels.
use Rattle.std.proofs.Common.{◌+◌, ◌-◌, ◌*◌, length}
use Rattle.spelling.specs.Spelling.{level_of}
use Rattle.parsing.proofs.Lists.{Going}
use Rattle.parsing.proofs.Parts.{Nots}
use Rattle.parsing.proofs.+and_list_by_level_list_or_list_part_xor_list.Given as goal

abbrev pub decreases-and_list : goal.decreases-and_list
decreases-and_list l = 11 * (length l.text.now - l.at) + 3

abbrev pub decreases-by_level : goal.decreases-by_level
decreases-by_level l = 11 * (length l.text.now - l.at) + (10 - 3 * l.level)

abbrev pub decreases-list : goal.decreases-list
decreases-list l = 11 * (length l.text.now - l.at) + (8 - 3 * l.level)

abbrev pub decreases-or_list : goal.decreases-or_list
decreases-or_list l = 11 * (length l.text.now - l.at) + 9

abbrev pub decreases-part : goal.decreases-part
decreases-part l = 11 * (length l.text.now - l.at)

abbrev pub decreases-xor_list : goal.decreases-xor_list
decreases-xor_list l = 11 * (length l.text.now - l.at) + 6

abbrev pub invariant-list-loop-op : goal.invariant-list-loop-op
invariant-list-loop-op l =
    Going l.text l.around (level_of l.level) (level_of (l.level + 1)) l.at l.first l.initial.nodes l.initial.whole.count l.nodes l.whole.next l.whole.count l.whole.deep

abbrev pub decreases-list-loop-op : goal.decreases-list-loop-op
decreases-list-loop-op l = length l.text - l.whole.next

abbrev pub invariant-part-loop-b : goal.invariant-part-loop-b
invariant-part-loop-b l = Nots l.text l.around l.at l.first l.initial.nodes l.nodes l.p l.nots l.b

abbrev pub decreases-part-loop-b : goal.decreases-part-loop-b
decreases-part-loop-b l = length l.text - l.p
