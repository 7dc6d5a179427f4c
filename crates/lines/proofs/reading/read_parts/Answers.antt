use Rattle.std.proofs.Common.{◌≡◌, List, [], ◌∷◌, Some, None, Option, MatchOption, sym, ap, ◌∙◌}
use Rattle.std.proofs.lemmas.Option.{none-some}
use Rattle.lines.specs.Left.{words_left}
use Rattle.lines.specs.Reading.{Word, bind, parts}
use Rattle.lines.proofs.reading.read_parts.Goals as goal

-- one part more, by the word that stands after its name
module _ {P V : Type 0} (with_part : P → Word → Word → Option P) (view : V → Word) (name : Word) (said more : P) (left rest : List Word) where
  one_part : (o : Option V) → MatchOption o ((left ≡ []) × (rest ≡ [])) (λ v. left ≡ view v ∷ rest) → Some more ≡ bind o (λ v. with_part said name (view v))
      → parts with_part (name ∷ left) said ≡ parts with_part rest more
  one_part None y e = absurd (none-some more (sym e))
  one_part (Some v) y e = ap (λ ws. parts with_part (name ∷ ws) said) y ∙ ap (λ q. bind q (parts with_part rest)) (sym e)

pub loop-name-preserved : goal.loop-name-preserved
loop-name-preserved g c =
    let all = parts g.P.Parts.with_part in
    let said = c.loop-name.said in
    let name = c.in-Some.name.now in
    let left = words_left c.next.new.self in
    let rest = words_left c.next-in-Some.new.self in
    let part = one_part g.P.Parts.with_part (λ v. v.now) name said c.in_ok-said.said left rest c.next-in-Some.result c.next-in-Some.ensures.steps (sym c.in_ok-said.was ∙ c.with_part.ensures) in
    sym part ∙ sym (ap (λ ws. all ws said) c.in-Some.ensures.steps) ∙ c.loop-name.invariant
