-- One step more.
use Rattle.std.proofs.Common.{◌≡◌, ℕ, ◌+◌, List, [], ◌∷◌, ◌++◌, map, refl, append-nil, arith}
use Rattle.std.specs.List.{range_with_len}
use Rattle.std.proofs.lemmas.Grind.{flat_map-append}
use Rattle.std.proofs.lemmas.List.FromFn.{map-range_with_len_more}
use Rattle.pg_sample.specs.Sample.{events_of, events_said, step_of, steps_said}

map_same : (ns : List ℕ) → map (λ n. n) ns ≡ ns
map_same [] = refl
map_same (n ∷ ns) = rw (map_same ns) refl

range_more : (count : ℕ) → range_with_len 1 (count + 1) ≡ range_with_len 1 count ++ (count + 1) ∷ []
range_more count = let m = map-range_with_len_more (λ (n : ℕ). n) 1 count (count + 1) (omega arith) in simp map_same at m

pub events_more : (count : ℕ) → events_said (count + 1) ≡ events_said count ++ events_of (count + 1)
events_more count = rw (range_more count, flat_map-append events_of (range_with_len 1 count) ((count + 1) ∷ [])) (simp append-nil)

pub steps_more : (count : ℕ) → steps_said (count + 1) ≡ steps_said count ++ step_of (count + 1) ∷ []
steps_more count = map-range_with_len_more step_of 1 count (count + 1) (omega arith)
