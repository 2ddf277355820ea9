-- What a call made of the connection that was lent is told of the holder.
use Rattle.std.proofs.Common.{◌≡◌, ◌∙◌, refl, ap, subst, sym}
use Rattle.pg_conn.specs.Connections.{ConnOf}

-- of another connection that is the same
pub told_of : {A : Type 0} (P : ConnOf A → ConnOf A → Type 0) (a a' b b' : ConnOf A) → a ≡ a' → b' ≡ b → P a b → P a' b'
told_of P a a' b b' e f p = subst (λ x. P x b') e (subst (λ y. P a y) (sym f) p)

-- a holder that lent one connection for another is the first with that other
pub lent : {C A : Type 0} (with_conn : C → ConnOf A → C) (f : ConnOf A → ConnOf A) (c : C) (a a' b : ConnOf A) → b ≡ f a → a ≡ a' → with_conn c b ≡ with_conn c (f a')
lent with_conn f c a a' b e g = subst (λ x. with_conn c b ≡ with_conn c (f x)) g (subst (λ x. with_conn c b ≡ with_conn c x) e refl)

-- a guard that is taken apart and spent
pub spent : {C A K : Type 0} (conn : C → ConnOf A) (with_conn : C → ConnOf A → C) (f : K → ConnOf A → ConnOf A) (c : C) (k : K) (parts : C × K) (result : C) → parts ≡ (c, k) → result ≡ with_conn parts.0 (f parts.1 (conn parts.0)) → result ≡ with_conn c (f k (conn c))
spent {C} {A} {K} conn with_conn f c k parts result e r = subst (λ (q : C × K). result ≡ with_conn q.0 (f q.1 (conn q.0))) e r

-- a holder that changed in its connection alone, and then in that of another call
pub behind : {C A : Type 0} (conn : C → ConnOf A) (with_conn : C → ConnOf A → C) → ((x : C) (v w : ConnOf A) → with_conn (with_conn x v) w ≡ with_conn x w) → (f : ConnOf A → ConnOf A) (c d held result : C)
    → d ≡ with_conn c (conn d) → held ≡ d → result ≡ with_conn held (f (conn held)) → result ≡ with_conn c (f (conn d))
behind conn with_conn again f c d held result e h r = subst (λ x. result ≡ with_conn x (f (conn x))) h r ∙ (ap (λ x. with_conn x (f (conn d))) e ∙ again c (conn d) (f (conn d)))
