use Rattle.std.proofs.Common.{IfOk, ◌≡◌, ◌∙◌, ℕ, List, Option, sym, subst}
use Rattle.pg_learning.specs.Telling.{named_origin}
use Rattle.pg_learning.proofs.telling.origin_of.Goals as goal

pub returns-in-Some-Some : goal.returns-in-Some-Some
returns-in-Some-Some c =
    let table = sym c.relation_id.ensures ∙ c.in-Some-Some.is-0 in
    let attribute = sym c.relation_attribute_no.ensures ∙ c.in-Some-Some.is-1 in
    rw (table, attribute) (subst (λ (names : Option (List ℕ × List ℕ)). IfOk c.named.result (λ o. o ≡ named_origin names c.args.column.now.origin)) c.column.ensures (rw c.origin-told.ensures at c.named.ensures))
