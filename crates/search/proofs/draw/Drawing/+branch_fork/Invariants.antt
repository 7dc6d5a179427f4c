use Rattle.std.proofs.Common.{◌+◌, ◌-◌, ◌*◌, max}
use Rattle.search.specs.Drawing.{turn_of}
use Rattle.search.proofs.Drawings.{Come}
use Rattle.search.proofs.draw.Drawing.+branch_fork.Given as goal

abbrev pub decreases-mark_branch : goal.decreases-mark_branch
decreases-mark_branch g l = 2 * turn_of l.self.now.size l.self.now.runs.now l.self.now.ways.now l.from l.set

abbrev pub decreases-mark_fork : goal.decreases-mark_fork
decreases-mark_fork g l =
    2 * max (turn_of l.self.now.size l.self.now.runs.now l.self.now.ways.now l.v l.part) (turn_of l.self.now.size l.self.now.runs.now l.self.now.ways.now l.v (l.set - l.part)) + 1

-- where the branch has come to: what is left to draw from there gives the whole
abbrev pub invariant-mark_branch-loop-number : goal.invariant-mark_branch-loop-number
invariant-mark_branch-loop-number g l = Come l.self.size l.self.runs.now l.self.ways.now l.from l.set l.initial.answer l.answer l.v

abbrev pub decreases-mark_branch-loop-number : goal.decreases-mark_branch-loop-number
decreases-mark_branch-loop-number g l = turn_of l.self.size l.self.runs.now l.self.ways.now l.v l.set
