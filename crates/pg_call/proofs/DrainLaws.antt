-- What was heard before and behind so many ReadyForQuery, with one frame more.
use Rattle.std.proofs.Common.{◌≡◌, ◌∙◌, ℕ, zero, suc, ◌+◌, ◌<◌, ◌≤◌, Bool, true, false, not, ◌&&◌, ◌||◌, cond, List, [], ◌∷◌, ◌++◌, refl, sym, ap, arith, append_assoc, append-nil}
use Rattle.std.specs.List.{count_by, list_any}
use Rattle.std.proofs.lemmas.List.Sums.{sum_by-append}
use Rattle.pg_wire.specs.Frame.{Frame}
use Rattle.pg_wire.specs.Frontend.{FrontendMessage}
use Rattle.pg_wire.specs.Parts.{is_ready}
use Rattle.pg_call.specs.Drains.{before_readys, after_readys, failed_behind, failed_after, fails_for, drain_fails}

pub count-cons : (t : Frame → Bool) (x : Frame) (xs : List Frame) → count_by t (x ∷ xs) ≡ cond (t x) 1 0 + count_by t xs
count-cons t x xs = omega (arith, sum_by-append (λ (y : Frame). cond (t y) 1 0) (x ∷ []) xs)

pub count-push : (t : Frame → Bool) (xs : List Frame) (x : Frame) → count_by t (xs ++ x ∷ []) ≡ count_by t xs + cond (t x) 1 0
count-push t xs x = omega (arith, sum_by-append (λ (y : Frame). cond (t y) 1 0) xs (x ∷ []))

pub count-same : (t : Frame → Bool) (xs : List Frame) (x : Frame) (n : ℕ) → t x ≡ false → count_by t xs ≡ n → count_by t (xs ++ x ∷ []) ≡ n
count-same t xs x n h e = rw h at (count-push t xs x) ∙ omega (arith, e)

pub after_nil : (n : ℕ) → after_readys n [] ≡ []
after_nil zero = refl
after_nil (suc n) = refl

-- nothing follows while a reply is owed, and all is before
pub after_below : (fs : List Frame) (p : ℕ) (f : Frame) → count_by is_ready fs < p → after_readys p (fs ++ f ∷ []) ≡ []
after_below [] zero f h = absurd (omega arith)
after_below [] (suc n) f h = after_nil (cond (is_ready f) n (suc n))
after_below (g ∷ fs) zero f h = absurd (omega arith)
after_below (g ∷ fs) (suc n) f h =
    let k : cond (is_ready g) 1 0 + count_by is_ready fs < suc n = omega (arith, h, count-cons is_ready g fs) in
    (elim (is_ready g) as (λ b. cond b 1 0 + count_by is_ready fs < suc n → after_readys (cond b n (suc n)) (fs ++ f ∷ []) ≡ []) [
      | true ↦ λ q. after_below fs n f (omega (arith, q))
      | false ↦ λ q. after_below fs (suc n) f (omega (arith, q))
    ]) k

pub before_nil : (n : ℕ) → before_readys n [] ≡ []
before_nil zero = refl
before_nil (suc n) = refl

pub before_below : (fs : List Frame) (p : ℕ) (f : Frame) → count_by is_ready fs < p → before_readys p (fs ++ f ∷ []) ≡ before_readys p fs ++ f ∷ []
before_below [] zero f h = absurd (omega arith)
before_below [] (suc n) f h = ap (λ (t : List Frame). f ∷ t) (before_nil (cond (is_ready f) n (suc n)))
before_below (g ∷ fs) zero f h = absurd (omega arith)
before_below (g ∷ fs) (suc n) f h =
    let k : cond (is_ready g) 1 0 + count_by is_ready fs < suc n = omega (arith, h, count-cons is_ready g fs) in
    (elim (is_ready g) as (λ b. cond b 1 0 + count_by is_ready fs < suc n → g ∷ before_readys (cond b n (suc n)) (fs ++ f ∷ []) ≡ g ∷ (before_readys (cond b n (suc n)) fs ++ f ∷ [])) [
      | true ↦ λ q. ap (λ (t : List Frame). g ∷ t) (before_below fs n f (omega (arith, q)))
      | false ↦ λ q. ap (λ (t : List Frame). g ∷ t) (before_below fs (suc n) f (omega (arith, q)))
    ]) k

-- once they are read, each frame is one of the own reply
pub after_from : (fs : List Frame) (p : ℕ) (f : Frame) → p ≤ count_by is_ready fs → after_readys p (fs ++ f ∷ []) ≡ after_readys p fs ++ f ∷ []
after_from fs zero f h = refl
after_from [] (suc n) f h = absurd (omega arith)
after_from (g ∷ fs) (suc n) f h =
    let k : suc n ≤ cond (is_ready g) 1 0 + count_by is_ready fs = omega (arith, h, count-cons is_ready g fs) in
    (elim (is_ready g) as (λ b. suc n ≤ cond b 1 0 + count_by is_ready fs → after_readys (cond b n (suc n)) (fs ++ f ∷ []) ≡ after_readys (cond b n (suc n)) fs ++ f ∷ []) [
      | true ↦ λ q. after_from fs n f (omega (arith, q))
      | false ↦ λ q. after_from fs (suc n) f (omega (arith, q))
    ]) k

pub before_from : (fs : List Frame) (p : ℕ) (f : Frame) → p ≤ count_by is_ready fs → before_readys p (fs ++ f ∷ []) ≡ before_readys p fs
before_from fs zero f h = refl
before_from [] (suc n) f h = absurd (omega arith)
before_from (g ∷ fs) (suc n) f h =
    let k : suc n ≤ cond (is_ready g) 1 0 + count_by is_ready fs = omega (arith, h, count-cons is_ready g fs) in
    (elim (is_ready g) as (λ b. suc n ≤ cond b 1 0 + count_by is_ready fs → g ∷ before_readys (cond b n (suc n)) (fs ++ f ∷ []) ≡ g ∷ before_readys (cond b n (suc n)) fs) [
      | true ↦ λ q. ap (λ (t : List Frame). g ∷ t) (before_from fs n f (omega (arith, q)))
      | false ↦ λ q. ap (λ (t : List Frame). g ∷ t) (before_from fs (suc n) f (omega (arith, q)))
    ]) k

-- ---- copies from the client

pub failed-push : (failed : Bool) (fs : List Frame) (f : Frame) → failed_after failed (fs ++ f ∷ []) ≡ failed_behind (failed_after failed fs) f
failed-push failed [] f = refl
failed-push failed (g ∷ fs) f = failed-push (failed_behind failed g) fs f

pub fails-push : (failed : Bool) (fs : List Frame) (f : Frame) → drain_fails failed (fs ++ f ∷ []) ≡ drain_fails failed fs ++ fails_for (failed_after failed fs) f
fails-push failed [] f = append-nil (fails_for failed f)
fails-push failed (g ∷ fs) f =
    ap (λ (t : List FrontendMessage). fails_for failed g ++ t) (fails-push (failed_behind failed g) fs f)
    ∙ sym (append_assoc (fails_for failed g) (drain_fails (failed_behind failed g) fs) (fails_for (failed_after (failed_behind failed g) fs) f))

-- ---- tests of one frame more

pub any_push : (t : Frame → Bool) (xs : List Frame) (x : Frame) → list_any t (xs ++ x ∷ []) ≡ list_any t xs || t x
any_push t [] x = or_nil (t x)
  where
    or_nil : (b : Bool) → b || false ≡ b
    or_nil true = refl
    or_nil false = refl
any_push t (y ∷ xs) x = ap (λ (b : Bool). t y || b) (any_push t xs x) ∙ or_assoc (t y) (list_any t xs) (t x)
  where
    or_assoc : (a b c : Bool) → a || (b || c) ≡ (a || b) || c
    or_assoc true b c = refl
    or_assoc false b c = refl

pub still_failed : (s : Bool) (xs : List Frame) (x : Frame) (b : Bool) → is_ready x ≡ false → b ≡ s && not (list_any is_ready xs) → b ≡ s && not (list_any is_ready (xs ++ x ∷ []))
still_failed s xs x b z e = e ∙ ap (λ (c : Bool). s && not c) (sym (rw z at (any_push is_ready xs x) ∙ or_false (list_any is_ready xs)))
  where
    or_false : (c : Bool) → c || false ≡ c
    or_false true = refl
    or_false false = refl

pub no_more_failed : (s : Bool) (xs : List Frame) (x : Frame) → is_ready x ≡ true → false ≡ s && not (list_any is_ready (xs ++ x ∷ []))
no_more_failed s xs x z = sym (ap (λ (c : Bool). s && not c) (rw z at (any_push is_ready xs x) ∙ or_true (list_any is_ready xs)) ∙ and_false s)
  where
    or_true : (c : Bool) → c || true ≡ true
    or_true true = refl
    or_true false = refl

    and_false : (c : Bool) → c && false ≡ false
    and_false true = refl
    and_false false = refl
