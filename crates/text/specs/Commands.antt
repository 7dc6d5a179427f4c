-- The commands by their words. Assumes nothing.
use Rattle.std.specs.Prelude.{ℕ, cond, List, [], ◌∷◌, Some, None, codes, Option}
use Rattle.std.specs.Str.{bytes_eq}
use Rattle.text.specs.declared.command.Command.{Command}
use Rattle.text.specs.declared.command.Command.TheVariants.{Nothing, District, Call}
use Rattle.text.specs.declared.command.Call.TheVariants.{Lay, Mark, Plan, Dug}
use Rattle.text.specs.declared.command.PlanWords.{PlanWords}
use Rattle.text.specs.declared.command.QueueChoice.{QueueChoice}
use Rattle.text.specs.declared.command.QueueChoice.TheVariants.{Row}
use Rattle.text.specs.declared.command.EstimatorChoice.{EstimatorChoice}
use Rattle.text.specs.declared.command.EstimatorChoice.TheVariants.{Silent}
use Rattle.lines.specs.Words.{words, uncommented}
use Rattle.lines.specs.Numbers.{number_of}
use Rattle.lines.specs.Reading.{Word, bind, with_number, only, once, parts}

-- district N CAPACITY
abbrev pub district_of : List Word → Option Command
district_of ws = with_number ws (λ n vs. with_number vs (λ m us. only us (District n m)))

-- lay A B COST
abbrev pub lay_of : List Word → Option Command
lay_of ws = with_number ws (λ a vs. with_number vs (λ b us. with_number us (λ cost ts. only ts (Call (Lay a b cost)))))

-- mark J
abbrev pub mark_of : List Word → Option Command
mark_of ws = with_number ws (λ j vs. only vs (Call (Mark j)))

-- dug C
abbrev pub dug_of : List Word → Option Command
dug_of ws = with_number ws (λ cost vs. only vs (Call (Dug cost)))

-- ---- plan [limit L] [queue row] [estimator silent], the parts in any order, each at most once

abbrev pub queue_of : Word → Option QueueChoice
queue_of w = cond (bytes_eq w (codes "row")) (Some Row) None

abbrev pub estimator_of : Word → Option EstimatorChoice
estimator_of w = cond (bytes_eq w (codes "silent")) (Some Silent) None

-- one part more: its name and its value
abbrev pub with_part : PlanWords → Word → Word → Option PlanWords
with_part p name value =
    cond (bytes_eq name (codes "limit"))
    (bind (once p.limit (number_of value)) (λ x. Some (record { limit = Some x; queue = p.queue; estimator = p.estimator })))
    (cond (bytes_eq name (codes "queue"))
    (bind (once p.queue (queue_of value)) (λ x. Some (record { limit = p.limit; queue = Some x; estimator = p.estimator })))
    (cond (bytes_eq name (codes "estimator"))
    (bind (once p.estimator (estimator_of value)) (λ x. Some (record { limit = p.limit; queue = p.queue; estimator = Some x })))
    None))

abbrev pub unsaid : PlanWords
unsaid = record { limit = None; queue = None; estimator = None }

abbrev pub plan_of : List Word → Option Command
plan_of ws = bind (parts with_part ws unsaid) (λ p. Some (Call (Plan p)))

-- ---- a line

abbrev pub command_of : Word → List Word → Option Command
command_of verb ws =
    cond (bytes_eq verb (codes "district")) (district_of ws)
    (cond (bytes_eq verb (codes "lay")) (lay_of ws)
    (cond (bytes_eq verb (codes "mark")) (mark_of ws)
    (cond (bytes_eq verb (codes "plan")) (plan_of ws)
    (cond (bytes_eq verb (codes "dug")) (dug_of ws) None))))

-- what the words of a line say; none where they are not understood
abbrev pub said : List Word → Option Command
said [] = Some Nothing
said (verb ∷ ws) = command_of verb ws

abbrev pub understood : List ℕ → Option Command
understood line = said (words (uncommented line))
