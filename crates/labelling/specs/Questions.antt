-- The questions about the memory that labels need. Assumes nothing.
use Rattle.std.specs.Prelude.{◌≡◌, ℕ, cond, length, Ok, Err, Result, ◌==◌, nat_lt}
use Rattle.network.specs.Layouts.{Layout}
use Rattle.network.specs.declared.refusal.Refusal.{Refusal}
use Rattle.network.specs.declared.refusal.Refusal.TheVariants.{NoOutlet, LabelMemory, QueueCapacity}
use Rattle.labelling.specs.declared.kinds.Size.{Size}
use Rattle.labelling.specs.Tables.{codes}
use Rattle.labelling.specs.Starts.{size_of}

-- is an outlet marked? has the label memory at least N × 2^(k−1) places? has the queue at least that capacity?
abbrev pub room_answer : {K : Type 0} → Layout K → ℕ → ℕ → Result Size Refusal
room_answer l places capacity =
    cond (length l.outlets == 0) (Err NoOutlet)
    (cond (nat_lt places (codes (size_of l))) (Err LabelMemory)
    (cond (nat_lt capacity (codes (size_of l))) (Err QueueCapacity) (Ok (size_of l))))

-- refused just where the questions say so, and with the number they give
abbrev pub Asked : {X Y : Type 0} → Result X Refusal → Result Y Refusal → Type 0
Asked (Ok x) (Ok y) = Unit {0}
Asked (Ok x) (Err why) = ⊥
Asked (Err q) (Ok y) = ⊥
Asked (Err q) (Err why) = why ≡ q
