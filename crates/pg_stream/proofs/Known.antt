-- Known bytes that grow, step after step.
use Rattle.std.proofs.Common.{min, max, inl, inr, ℕ, ◌≡◌, subst, List, [], ◌∷◌, ◌++◌, length, refl, sym, ap, ◌∙◌, append_assoc, Option, Some, None, arith}
use Rattle.std.specs.Io.KnownBytes.{Keeps, Appends}
use Rattle.std.proofs.lemmas.List.{append-nil}
use Rattle.pg_stream.specs.declared.link.Asked.{Asked}
use Rattle.pg_stream.specs.Streams.{AskedFor}
use Rattle.pg_stream.specs.Links.{asked_with, LinkSeen, StillTold, NoneFalls, Rises, Counts, GrewBy, NoWaits, AddsPlace}

-- reads that ask for the same are seen as one
asked_again : (a : Asked) (n : ℕ) → asked_with (asked_with a n) n ≡ asked_with a n
asked_again a n =
    let least : min (min a.least n) n ≡ min a.least n = omega arith in
    let most : max (max a.most n) n ≡ max a.most n = omega arith in
    rw (least, most) refl

pub AskedFor-then : (a b c : LinkSeen) → AskedFor a b → AskedFor b c → AskedFor a c
AskedFor-then a b c p q = elim p [
  | inl e ↦ elim q [ inl f ↦ inl (f ∙ e) | inr f ↦ inr (f ∙ ap (λ (x : Asked). asked_with x 8192) e) ]
  | inr e ↦ elim q [ inl f ↦ inr (f ∙ e) | inr f ↦ inr (f ∙ ap (λ (x : Asked). asked_with x 8192) e ∙ asked_again a.asked 8192) ]
]

pub Appends-then : (a b c : Option (List ℕ)) (x y : List ℕ) → Appends a b x → Appends b c y → Appends a c (x ++ y)
Appends-then None b c x y p q = tt
Appends-then (Some s) None c x y p q = absurd p
Appends-then (Some s) (Some t) None x y p q = absurd q
Appends-then (Some s) (Some t) (Some u) x y p q = q ∙ ap (λ (z : List ℕ). z ++ y) p ∙ append_assoc s x y

pub Appends-from_keeps : (a b : Option (List ℕ)) → Keeps a b → Appends a b []
Appends-from_keeps None b k = tt
Appends-from_keeps (Some s) None k = absurd k
Appends-from_keeps (Some s) (Some t) k = k ∙ sym (append-nil s)

pub Appends-refl : (a : Option (List ℕ)) → Appends a a []
Appends-refl None = tt
Appends-refl (Some s) = sym (append-nil s)

pub Keeps-refl : (a : Option (List ℕ)) → Keeps a a
Keeps-refl None = tt
Keeps-refl (Some s) = refl

pub Keeps-then : (a b c : Option (List ℕ)) → Keeps a b → Keeps b c → Keeps a c
Keeps-then None b c p q = tt
Keeps-then (Some s) None c p q = absurd p
Keeps-then (Some s) (Some t) None p q = absurd q
Keeps-then (Some s) (Some t) (Some u) p q = q ∙ p

pub Appends-keeps : (a b c : Option (List ℕ)) (x : List ℕ) → Appends a b x → Keeps b c → Appends a c x
Appends-keeps None b c x p k = tt
Appends-keeps (Some s) None c x p k = absurd p
Appends-keeps (Some s) (Some t) None x p k = absurd k
Appends-keeps (Some s) (Some t) (Some u) x p k = k ∙ p

-- a place is added to those that stayed
pub AddsPlace-after : (given a b c : Option (List ℕ)) → Keeps a b → AddsPlace given b c → AddsPlace given a c
AddsPlace-after None a b c k p = tt
AddsPlace-after (Some g) None b c k p = tt
AddsPlace-after (Some g) (Some s) None c k p = absurd k
AddsPlace-after (Some g) (Some s) (Some t) None k p = absurd p
AddsPlace-after (Some g) (Some s) (Some t) (Some u) k p = p ∙ ap (λ (z : List ℕ). z ++ length g ∷ []) k

StillTold-refl : (a : Option (List ℕ)) → StillTold a a
StillTold-refl None = tt
StillTold-refl (Some s) = tt

StillTold-then : (a b c : Option (List ℕ)) → StillTold a b → StillTold b c → StillTold a c
StillTold-then None b c p q = tt
StillTold-then (Some s) None c p q = absurd p
StillTold-then (Some s) (Some t) None p q = absurd q
StillTold-then (Some s) (Some t) (Some u) p q = tt

pub NoneFalls-refl : (a : LinkSeen) → NoneFalls a a
NoneFalls-refl a = record { plan = refl; places = StillTold-refl a.wait_places; calls = omega arith; moved = omega arith; read_waits = omega arith; write_waits = omega arith; ends = omega arith; faults = omega arith; upgrade_faults = omega arith }

pub NoneFalls-then : (a b c : LinkSeen) → NoneFalls a b → NoneFalls b c → NoneFalls a c
NoneFalls-then a b c p q = record { plan = q.plan ∙ p.plan; places = StillTold-then a.wait_places b.wait_places c.wait_places p.places q.places; calls = omega arith; moved = omega arith; read_waits = omega arith; write_waits = omega arith; ends = omega arith; faults = omega arith; upgrade_faults = omega arith }

pub NoneFalls-from_counts : (a b : LinkSeen) (r : Rises) → Counts a b r → NoneFalls a b
NoneFalls-from_counts a b r p = record { plan = p.plan; places = p.places; calls = p.calls.0; moved = p.moved.0; read_waits = p.read_waits.0; write_waits = p.write_waits.0; ends = p.ends.0; faults = p.faults.0; upgrade_faults = p.upgrade_faults.0 }

-- a count that stood still before it grew
pub GrewBy-after : (x y z : ℕ) → y ≡ x → GrewBy 1 y z → GrewBy 1 x z
GrewBy-after x y z e g = subst (λ (k : ℕ). GrewBy 1 k z) e g

pub GrewBy-still : (x y : ℕ) → GrewBy 0 x y → y ≡ x
GrewBy-still x y g = omega (arith, g)

-- no call waited, for none was counted as a wait
pub NoWaits-from_counts : (a b : LinkSeen) (r : Rises) → Counts a b r → r.write_waits ≡ 0 → r.read_waits ≡ 0 → NoWaits a b
NoWaits-from_counts a b r h w n = (GrewBy-still _ _ (subst (λ (k : ℕ). GrewBy k a.write_waits b.write_waits) w h.write_waits), GrewBy-still _ _ (subst (λ (k : ℕ). GrewBy k a.read_waits b.read_waits) n h.read_waits))

pub NoWaits-then : (a b c : LinkSeen) → NoWaits a b → NoWaits b c → NoWaits a c
NoWaits-then a b c p q = (q.0 ∙ p.0, q.1 ∙ p.1)
