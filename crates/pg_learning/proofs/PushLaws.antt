-- What is asked for in two parts is asked for at once.
use Rattle.std.proofs.Common.{◌≡◌, ◌∙◌, ℕ, Bool, true, false, cond, is_some, List, [], ◌∷◌, ◌++◌, map, refl, sym, ap, append-nil}
use Rattle.std.proofs.lemmas.List.{map-append}
use Rattle.pg_resolve.specs.declared.entry.Entry.{Entry}
use Rattle.pg_resolve.specs.Cached.{CacheSeen, known}
use Rattle.pg_resolve.specs.Resolving.{ResolverSeen, by_oid, no_rows}
use Rattle.pg_learning.specs.Learning.{unknown}

unknown-append : (c : CacheSeen) (xs ys : List ℕ) → unknown c (xs ++ ys) ≡ unknown c xs ++ unknown c ys
unknown-append c [] ys = refl
unknown-append c (x ∷ xs) ys = by (is_some (known c x)) (unknown-append c xs ys)
  where
    by : (b : Bool) → unknown c (xs ++ ys) ≡ unknown c xs ++ unknown c ys → cond b (unknown c (xs ++ ys)) (x ∷ unknown c (xs ++ ys)) ≡ cond b (unknown c xs) (x ∷ unknown c xs) ++ unknown c ys
    by true e = e
    by false e = ap (λ (zs : List ℕ). x ∷ zs) e

pub both_asked : (c : CacheSeen) (xs ys : List ℕ) → map by_oid (unknown c xs) ++ map by_oid (unknown c ys) ≡ map by_oid (unknown c (xs ++ ys))
both_asked c xs ys = sym (map-append by_oid (unknown c xs) (unknown c ys)) ∙ ap (map by_oid) (sym (unknown-append c xs ys))

-- behind the last one nothing is left to ask
pub all_asked : (c : CacheSeen) (xs rest : List ℕ) (old now : ResolverSeen) → rest ≡ [] → now.pushed ++ map by_oid (unknown c rest) ≡ old.pushed ++ map by_oid (unknown c xs) → now ≡ record old { pushed = now.pushed }
    → now ≡ record old { pushed = old.pushed ++ map by_oid (unknown c xs) }
all_asked c xs rest old now none e f =
    f ∙ ap (λ (p : List Entry). record old { pushed = p }) (sym (append-nil now.pushed) ∙ ap (λ (r : List ℕ). now.pushed ++ map by_oid (unknown c r)) (sym none) ∙ e)

pub types_asked : (c : CacheSeen) (xs ys : List ℕ) (r : ResolverSeen) (s : ResolverSeen) → r ≡ record no_rows { pushed = [] ++ map by_oid (unknown c xs) } → s ≡ record r { pushed = r.pushed ++ map by_oid (unknown c ys) } → s ≡ record no_rows { pushed = map by_oid (unknown c (xs ++ ys)) }
types_asked c xs ys r s e f = f ∙ ap (λ (x : ResolverSeen). record x { pushed = x.pushed ++ map by_oid (unknown c ys) }) e ∙ ap (λ (p : List Entry). record no_rows { pushed = p }) (both_asked c xs ys)
