-- The number and the text of each answer that is no plan. Assumes nothing.
use Rattle.std.specs.Prelude.{ℕ, List, ◌++◌, Some, Option, codes, option_map}
use Rattle.std.specs.Fmt.{decimal}
use Rattle.network.specs.Numbers.{number_of as refusal-number}
use Rattle.network.specs.Texts.{refusal_text}
use Rattle.search.specs.declared.answer.NoPlan.{NoPlan}
use Rattle.search.specs.declared.answer.NoPlan.TheVariants.{Refused, Unjoined, Stopped}

-- the number of the question that was answered "no"
abbrev pub number_of : {K : Type 0} → NoPlan K → ℕ
number_of (Refused why) = refusal-number why
number_of (Unjoined count) = 18
number_of (Stopped count floor) = 19

-- the number, and what goes with it, where a floor is written as its kind writes it
abbrev pub text_of : {K : Type 0} → (K → Option (List ℕ)) → NoPlan K → Option (List ℕ)
text_of written (Refused why) = Some (refusal_text why)
text_of written (Unjoined count) = Some (codes "refused 18, count " ++ decimal count)
text_of written (Stopped count floor) =
    option_map (λ text. codes "refused 19, count " ++ decimal count ++ codes ", floor " ++ text) (written floor)
