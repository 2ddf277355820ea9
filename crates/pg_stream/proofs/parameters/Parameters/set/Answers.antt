use Rattle.std.proofs.Common.{◌≡◌, ◌∙◌, sym, ap, map, List, ℕ}
use Rattle.std.specs.Ordering.{nat_cmp}
use Rattle.std.specs.Cmp.Lexicographic.{slice_cmp}
use Rattle.std.specs.BTreeMap.{insert_entry}
use Rattle.std.specs.String.{string_bytes}
use Rattle.pg_stream.specs.Parameters.{ParametersSeen}
use Rattle.pg_stream.proofs.ParameterLaws.{text_pair, insert_texts, sets_other}
use Rattle.pg_stream.proofs.parameters.Parameters.set.Goals as goal

pub returns-in-Ok-clause-ok : goal.returns-in-Ok-clause-ok
returns-in-Ok-clause-ok c =
    let old : List (List ℕ × List ℕ) = map text_pair c.self.inside.values.entries in
    let entries : map text_pair c.insert.new.self.entries ≡ insert_entry (slice_cmp nat_cmp) old c.args.status.name c.args.status.value
    = ap (map text_pair) c.in-Ok.ensures.entries
    ∙ insert_texts c.self.inside.values.entries c.into_string.result c.into_string-2.result
    ∙ ap (λ (n : List ℕ). insert_entry (slice_cmp nat_cmp) old n (string_bytes c.into_string-2.result)) c.into_string.ensures
    ∙ ap (λ (v : List ℕ). insert_entry (slice_cmp nat_cmp) old c.args.status.name v) c.into_string-2.ensures in
    let values : ParametersSeen = record { version = c.self.inside.version; values = old } in
    let other = rw c.as_str.ensures at c.eq.ensures in
    rw (← c.self.view_is) (ap (λ (vs : List (List ℕ × List ℕ)). record values { values = vs }) entries ∙ sets_other c.args.status.name c.args.status.value values (sym other ∙ c.if-eq.false))
