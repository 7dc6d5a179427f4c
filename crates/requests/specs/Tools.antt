-- With what a plan is made: a queue and an estimator. Assumes nothing.
use Rattle.std.specs.Prelude.{Bool, true, false, ◌&&◌}
use Rattle.std.specs.Option.{unwrap_or}
use Rattle.commands.specs.declared.command.QueueChoice.{QueueChoice}
use Rattle.commands.specs.declared.command.QueueChoice.TheVariants.{Row, Heap}
use Rattle.commands.specs.declared.command.EstimatorChoice.{EstimatorChoice}
use Rattle.commands.specs.declared.command.EstimatorChoice.TheVariants.{Silent, Farthest, Larger}
use Rattle.commands.specs.declared.command.PlanWords.{PlanWords}
use Rattle.requests.specs.declared.tools.Tools.{Tools}

abbrev pub same_queue : QueueChoice → QueueChoice → Bool
same_queue Row Row = true
same_queue Row Heap = false
same_queue Heap Row = false
same_queue Heap Heap = true

abbrev pub same_estimator : EstimatorChoice → EstimatorChoice → Bool
same_estimator Silent Silent = true
same_estimator Silent Farthest = false
same_estimator Silent Larger = false
same_estimator Farthest Silent = false
same_estimator Farthest Farthest = true
same_estimator Farthest Larger = false
same_estimator Larger Silent = false
same_estimator Larger Farthest = false
same_estimator Larger Larger = true

abbrev pub same_tools : Tools → Tools → Bool
same_tools a b = same_queue a.queue b.queue && same_estimator a.estimator b.estimator

-- what a plan's line names: heap and farthest where it names nothing
abbrev pub tools_of : PlanWords → Tools
tools_of said = record { queue = unwrap_or said.queue Heap; estimator = unwrap_or said.estimator Farthest }
