-- A copy that was lent stays open.
use Rattle.std.proofs.Common.{◌≡◌, subst, sym}
use Rattle.pg_conn.specs.Connections.{ConnOf}
use Rattle.pg_conn.specs.Feeding.{IsFed}

pub still_open : {X A : Type 0} (conn : X → ConnOf A) (x y : X) → x ≡ y → IsFed (conn y) → IsFed (conn x)
still_open conn x y e f = subst (λ z. IsFed (conn z)) (sym e) f
