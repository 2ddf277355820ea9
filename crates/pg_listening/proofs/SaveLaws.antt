-- One that is kept on a connection goes behind those of earlier ones.
use Rattle.std.proofs.Common.{◌≡◌, ◌<◌, List, [], ◌∷◌, ◌++◌, append_assoc, length, sym, ap, ◌∙◌, Some, None, Bool, arith}
use Rattle.pg_wire.specs.declared.message.notification_response.Notification.{Notification}
use Rattle.pg_stream.specs.Notifications.{KeptSeen, TakesOldest}

pub moved_one : (e b : List Notification) (n : Notification) (a c : KeptSeen) → TakesOldest a c (Some n) → e ++ a.kept ≡ b → (e ++ n ∷ []) ++ c.kept ≡ b
moved_one e b n a c t p = append_assoc e (n ∷ []) c.kept ∙ ap (λ (k : KeptSeen). e ++ k.kept) (sym t) ∙ p

pub still_keeping : (b : Bool) (n : Notification) (a c : KeptSeen) → TakesOldest a c (Some n) → a.keeping ≡ b → c.keeping ≡ b
still_keeping b n a c t p = ap (λ (k : KeptSeen). k.keeping) (sym t) ∙ p

pub fewer_kept : (n : Notification) (a c : KeptSeen) → TakesOldest a c (Some n) → length c.kept < length a.kept
fewer_kept n a c t = let e : length a.kept ≡ length (n ∷ c.kept) = ap (λ (k : KeptSeen). length k.kept) t in omega (arith, e)

-- the last one has gone
pub all_moved : (e b : List Notification) (a c : KeptSeen) → TakesOldest a c None → e ++ a.kept ≡ b → e ++ c.kept ≡ b
all_moved e b a c t p = ap (λ (k : KeptSeen). e ++ k.kept) t.1 ∙ p

pub none_left : (a c : KeptSeen) → TakesOldest a c None → c.kept ≡ []
none_left a c t = ap (λ (k : KeptSeen). k.kept) t.1 ∙ t.0

pub keeping_left : (b : Bool) (a c : KeptSeen) → TakesOldest a c None → a.keeping ≡ b → c.keeping ≡ b
keeping_left b a c t p = ap (λ (k : KeptSeen). k.keeping) t.1 ∙ p
