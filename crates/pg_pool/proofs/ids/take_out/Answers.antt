use Rattle.std.proofs.Common.{◌≡◌, ℕ, List, length, vec_len, sym, ap, ◌∙◌, arith}
use Rattle.std.specs.List.{remove}
use Rattle.pg_pool.specs.PoolHistory.{place_of}
use Rattle.pg_pool.proofs.IdLaws.{placed, removed}
use Rattle.pg_pool.proofs.ids.take_out.Goals as goal

pub remove-requires : goal.remove-requires
remove-requires c =
    let at : c.place_of-place.result ≡ place_of c.args.id c.args.ids.now.items = c.place_of-place.ensures ∙ ap (λ (xs : List ℕ). place_of c.args.id xs) c.as_slice.ensures.value in
    let len : length c.args.ids.now.items ≡ vec_len c.args.ids.now = sym (ap (λ (xs : List ℕ). length xs) c.as_slice.ensures.value) ∙ c.as_slice.ensures.len in
    omega (arith, at, len, placed c.args.id c.args.ids.now.items c.requires)

pub returns-clause-items : goal.returns-clause-items
returns-clause-items c =
    let at : c.place_of-place.result ≡ place_of c.args.id c.args.ids.now.items = c.place_of-place.ensures ∙ ap (λ (xs : List ℕ). place_of c.args.id xs) c.as_slice.ensures.value in
    c.remove.ensures.items ∙ ap (λ (n : ℕ). remove c.args.ids.now.items n) at ∙ removed c.args.id c.args.ids.now.items c.requires
