-- The number of each refusal. Assumes nothing.
use Rattle.std.specs.Prelude.{ℕ}
use Rattle.network.specs.declared.refusal.Refusal.{Refusal}
use Rattle.network.specs.declared.refusal.Refusal.TheVariants.{JunctionCount, RunCapacity, NotAJunction, SameEnds, NoCost, TooBulky, RunsFull, NoRun, RunState, AlreadyMarked, OutletsFull, NotMarked, NoOutlet, LabelMemory, QueueCapacity, EstimatorFit, AnswerRow, CodeBeyond}

-- the number of the question that was answered "no"
abbrev pub number_of : Refusal → ℕ
number_of JunctionCount = 1
number_of RunCapacity = 2
number_of NotAJunction = 3
number_of SameEnds = 4
number_of NoCost = 5
number_of TooBulky = 6
number_of RunsFull = 7
number_of NoRun = 8
number_of RunState = 9
number_of AlreadyMarked = 10
number_of OutletsFull = 11
number_of NotMarked = 12
number_of NoOutlet = 13
number_of LabelMemory = 14
number_of QueueCapacity = 15
number_of EstimatorFit = 16
number_of AnswerRow = 17
number_of CodeBeyond = 20
