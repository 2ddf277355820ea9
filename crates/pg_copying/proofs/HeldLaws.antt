-- What is held changes in its connection alone.
use Rattle.std.proofs.Common.{◌≡◌, ap, ◌∙◌}
use Rattle.pg_conn.specs.Connections.{ConnOf}

-- also where it changes twice
pub held_behind : {C A : Type 0} (conn : C → ConnOf A) (with_conn : C → ConnOf A → C) → ((x : C) (v w : ConnOf A) → with_conn (with_conn x v) w ≡ with_conn x w) → (a b c : C) (v : ConnOf A) → b ≡ with_conn a v → c ≡ with_conn b (conn c) → c ≡ with_conn a (conn c)
held_behind conn with_conn again a b c v p q = q ∙ ap (λ x. with_conn x (conn c)) p ∙ again a v (conn c)
