use Rattle.std.proofs.Common.{◌≡◌, List, [], ◌∷◌, codes, refl, ap, sym, ◌∙◌, arith}
use Rattle.std.proofs.lemmas.Slice.Eq.{text_from_reads}
use Rattle.lines.specs.Left.{words_left}
use Rattle.lines.specs.Reading.{Word, only}
use Rattle.commands.specs.declared.command.CostKind.TheVariants.{Crossings}
use Rattle.commands.specs.Commands.{kind_of}
use Rattle.commands.proofs.read.read_kind.Goals as goal

told : (ws : List Word) → only ws Crossings ≡ kind_of (codes "crossings" ∷ ws)
told [] = refl
told (w ∷ ws) = refl

pub returns-in-Some-crossings : goal.returns-in-Some-crossings
returns-in-Some-crossings c =
    let word = text_from_reads c.in-Some-crossings.field-0.now (codes "crossings") (omega arith) (search arith) in
    let rest = words_left c.next.new.self in
    c.whole.ensures ∙ told rest ∙ sym (ap (λ w. kind_of (w ∷ rest)) word) ∙ sym (ap kind_of c.in-Some-crossings.ensures.steps)
