-- The own response of a slice, by its number and by what stands before it.
use Rattle.std.proofs.Common.{◌≡◌, ℕ, zero, suc, ◌+◌, Bool, true, false, not, ◌&&◌, ◌||◌, ◌==◌, cond, ◌⊎◌, inl, inr, List, [], ◌∷◌, ◌++◌, refl, sym, ap, ◌∙◌, subst, arith, take, replicate, unwrap_or, slice_get, codes}
use Rattle.std.specs.List.{count_by, AllByRecursion, list_any}
use Rattle.std.proofs.lemmas.Bool.{eqb-true}
use Rattle.std.proofs.lemmas.List.Sums.{sum_by-append}
use Rattle.pg_wire.specs.Frame.{Frame, is_known}
use Rattle.pg_wire.specs.Parts.{is_ready, parts, onto_first}
use Rattle.pg_wire.specs.Frontend.{FrontendMessage}
use Rattle.pg_wire.proofs.PartLaws.{NonePasses, open_piece, closed_piece}
use Rattle.pg_call.specs.Requests.{copy_fail}
use Rattle.pg_call.specs.Drains.{is_error, is_copy_in, before_readys, after_readys, failed_behind, fails_for, drain_fails}
use Rattle.pg_call.proofs.DrainLaws.{count-cons, count-push, after_from}
use Rattle.pg_play.specs.Places.{unfed}
use Rattle.pg_play.specs.Told.{HasNoError}

abbrev pub nth_part : ℕ → List Frame → List Frame
nth_part p hs = unwrap_or (slice_get (parts hs) p) []

-- one response, open or whole, or nothing
abbrev pub IsOnePart : List Frame → Type 0
IsOnePart xs = (xs ≡ []) ⊎ (parts xs ≡ xs ∷ [])

first_part : (hs : List Frame) → IsOnePart hs → nth_part 0 hs ≡ hs
first_part hs (inl e) = rw e refl
first_part hs (inr e) = rw e refl

behind_first : (g : Frame) (xss : List (List Frame)) (n : ℕ) → unwrap_or (slice_get (onto_first g xss) (suc n)) [] ≡ unwrap_or (slice_get xss (suc n)) []
behind_first g [] n = refl
behind_first g (xs ∷ xss) n = refl

nth_by : (b : Bool) (g : Frame) (fs : List Frame) (n : ℕ) → ((m : ℕ) → IsOnePart (after_readys m fs) → nth_part m fs ≡ after_readys m fs) → IsOnePart (after_readys (cond b n (suc n)) fs)
    → unwrap_or (slice_get (cond b ((g ∷ []) ∷ parts fs) (onto_first g (parts fs))) (suc n)) [] ≡ after_readys (cond b n (suc n)) fs
nth_by true g fs n f h = f n h
nth_by false g fs n f h = behind_first g (parts fs) n ∙ f (suc n) h

pub nth_is : (hs : List Frame) (p : ℕ) → IsOnePart (after_readys p hs) → nth_part p hs ≡ after_readys p hs
nth_is hs zero h = first_part hs h
nth_is [] (suc n) h = refl
nth_is (g ∷ fs) (suc n) h = nth_by (is_ready g) g fs n (λ m k. nth_is fs m k) h

none_by : (b : Bool) (x : Frame) (xs : List Frame) → is_ready x ≡ b → (count_by is_ready xs ≡ 0 → NonePasses is_ready xs) → cond b 1 0 + count_by is_ready xs ≡ 0 → NonePasses is_ready (x ∷ xs)
none_by true x xs z f c = absurd (omega (arith, c))
none_by false x xs z f c = (z, f (omega (arith, c)))

none_ready : (xs : List Frame) → count_by is_ready xs ≡ 0 → NonePasses is_ready xs
none_ready [] e = tt
none_ready (x ∷ xs) e = none_by (is_ready x) x xs refl (λ c. none_ready xs c) (omega (arith, e, count-cons is_ready x xs))

open_part : (xs : List Frame) → count_by is_ready xs ≡ 0 → IsOnePart xs
open_part [] e = inl refl
open_part (x ∷ xs) e = inr (open_piece is_ready x xs (none_ready (x ∷ xs) e))

closed_part : (xs : List Frame) (z : Frame) → count_by is_ready xs ≡ 0 → is_ready z ≡ true → IsOnePart (xs ++ z ∷ [])
closed_part xs z e r = inr (closed_piece is_ready xs z (none_ready xs e) r)

-- what follows p ReadyForQuery has as many fewer
pub count_after : (hs : List Frame) (p : ℕ) → count_by is_ready hs ≡ p → count_by is_ready (after_readys p hs) ≡ 0
count_after hs zero e = e
count_after [] (suc n) e = refl
count_after (g ∷ fs) (suc n) e =
    (elim (is_ready g) as (λ b. cond b 1 0 + count_by is_ready fs ≡ suc n → count_by is_ready (after_readys (cond b n (suc n)) fs) ≡ 0) [
      | true ↦ λ q. count_after fs n (omega (arith, q))
      | false ↦ λ q. count_after fs (suc n) (omega (arith, q))
    ]) (omega (arith, e, count-cons is_ready g fs))

pub own_open : (hs : List Frame) (p : ℕ) → count_by is_ready hs ≡ p → nth_part p hs ≡ after_readys p hs
own_open hs p e = nth_is hs p (open_part (after_readys p hs) (count_after hs p e))

pub own_closed : (front : List Frame) (z : Frame) (p : ℕ) → count_by is_ready (front ++ z ∷ []) ≡ p + 1 → is_ready z ≡ true → nth_part p (front ++ z ∷ []) ≡ after_readys p (front ++ z ∷ [])
own_closed front z p e r =
    let c : count_by is_ready front ≡ p = omega (arith, e, rw r at (count-push is_ready front z)) in
    nth_is (front ++ z ∷ []) p (subst IsOnePart (sym (after_from front p z (omega (arith, c)))) (closed_part (after_readys p front) z (count_after front p c) r))

-- ---- errors

error_by : (b : Bool) (x : Frame) (xs : List Frame) → is_error x ≡ b → (count_by is_error xs ≡ 0 → HasNoError xs) → cond b 1 0 + count_by is_error xs ≡ 0 → HasNoError (x ∷ xs)
error_by true x xs z f c = absurd (omega (arith, c))
error_by false x xs z f c = (z, f (omega (arith, c)))

pub no_error : (xs : List Frame) → count_by is_error xs ≡ 0 → HasNoError xs
no_error [] e = tt
no_error (x ∷ xs) e = error_by (is_error x) x xs refl (λ c. no_error xs c) (omega (arith, e, count-cons is_error x xs))

-- ---- behind the responses of two lists

more_by : (b : Bool) (xs ys : List Frame) (m p : ℕ) → ((n : ℕ) → count_by is_ready xs + p ≡ n → (p ≡ 0 → after_readys n xs ≡ []) → after_readys n (xs ++ ys) ≡ after_readys p ys)
    → cond b 1 0 + count_by is_ready xs + p ≡ suc m → (p ≡ 0 → after_readys (cond b m (suc m)) xs ≡ []) → after_readys (cond b m (suc m)) (xs ++ ys) ≡ after_readys p ys
more_by true xs ys m p f e h = f m (omega (arith, e)) h
more_by false xs ys m p f e h = f (suc m) (omega (arith, e)) h

pub after_more : (xs ys : List Frame) (n p : ℕ) → count_by is_ready xs + p ≡ n → (p ≡ 0 → after_readys n xs ≡ []) → after_readys n (xs ++ ys) ≡ after_readys p ys
after_more [] ys n p e h =
    let same : n ≡ p = omega (arith, e) in
    ap (λ (k : ℕ). after_readys k ys) same
after_more (g ∷ xs) ys zero p e h =
    let z : p ≡ 0 = omega (arith, e) in
    absurd (some_none g xs (h z))
  where
    some_none : (g : Frame) (xs : List Frame) → g ∷ xs ≡ [] → ⊥
    some_none g xs k = absurd cc
after_more (g ∷ xs) ys (suc m) p e h = more_by (is_ready g) xs ys m p (λ n x y. after_more xs ys n p x y) (omega (arith, e, count-cons is_ready g xs)) h

end_by : (b : Bool) (fs : List Frame) (z : Frame) (m : ℕ) → ((n : ℕ) → count_by is_ready fs + 1 ≡ n → after_readys n (fs ++ z ∷ []) ≡ []) → cond b 1 0 + count_by is_ready fs + 1 ≡ suc m → after_readys (cond b m (suc m)) (fs ++ z ∷ []) ≡ []
end_by true fs z m f e = f m (omega (arith, e))
end_by false fs z m f e = f (suc m) (omega (arith, e))

-- nothing follows the last response where it is the last frame that ends it
ready_end : (fs : List Frame) (z : Frame) (n : ℕ) → is_ready z ≡ true → count_by is_ready fs + 1 ≡ n → after_readys n (fs ++ z ∷ []) ≡ []
ready_end [] z zero r e = absurd (omega (arith, e))
ready_end [] z (suc m) r e =
    let k : m ≡ 0 = omega (arith, e) in
    ap (λ (b : Bool). after_readys (cond b m (suc m)) []) r ∙ ap (λ (j : ℕ). after_readys j []) k
ready_end (g ∷ fs) z zero r e = absurd (omega (arith, e))
ready_end (g ∷ fs) z (suc m) r e = end_by (is_ready g) fs z m (λ n x. ready_end fs z n r x) (omega (arith, e, count-cons is_ready g fs))

pub after_end : (fs : List Frame) (z : Frame) (n : ℕ) → is_ready z ≡ true → count_by is_ready (fs ++ z ∷ []) ≡ n → after_readys n (fs ++ z ∷ []) ≡ []
after_end fs z n r e = ready_end fs z n r (omega (arith, e, rw r at (count-push is_ready fs z)))

-- ---- the copies of drained responses

-- how many of them begin one, where that of the first may be ended already
abbrev asked : Bool → List (List Frame) → ℕ
asked failed [] = 0
asked failed (xs ∷ xss) = cond (not failed && list_any is_copy_in xs) 1 0 + count_by (list_any is_copy_in) xss

count_first : (xs : List Frame) (xss : List (List Frame)) → count_by (list_any is_copy_in) (xs ∷ xss) ≡ cond (list_any is_copy_in xs) 1 0 + count_by (list_any is_copy_in) xss
count_first xs xss = sum_by-append (λ (y : List Frame). cond (list_any is_copy_in y) 1 0) (xs ∷ []) xss ∙ omega arith

asked_first : (failed : Bool) (xss : List (List Frame)) → asked failed xss ≡ unfed failed xss
asked_first true [] = refl
asked_first false [] = refl
asked_first true (xs ∷ xss) = omega arith
asked_first false (xs ∷ xss) = sym (count_first xs xss)

-- a ReadyForQuery begins no copy
ready_not_copy : (f : Frame) → is_ready f ≡ true → is_copy_in f ≡ false
ready_not_copy f e = ap (λ (t : ℕ). is_known (codes "G") t) (eqb-true f.tag 90 (only (f.tag == 90) e))
  where
    only : (b : Bool) → b || false ≡ true → b ≡ true
    only true h = refl
    only false h = h

pub take_none : {A : Type 0} (n : ℕ) → take {A = A} n [] ≡ []
take_none zero = refl
take_none (suc n) = refl

-- one more frame at the front of the first response
asked_one : (failed copies : Bool) (f : Frame) (xss : List (List Frame)) → is_copy_in f ≡ copies → xss ≡ [] → asked failed ((f ∷ []) ∷ xss) ≡ cond (copies && not failed) 1 0 + 0
asked_one true true f xss e z = rw z refl
asked_one true false f xss e z = rw z refl
asked_one false true f xss e z = rw (z, e) refl
asked_one false false f xss e z = rw (z, e) refl

asked_more : (failed copies : Bool) (f : Frame) (xs : List Frame) (xss : List (List Frame)) → is_copy_in f ≡ copies → asked failed ((f ∷ xs) ∷ xss) ≡ cond (copies && not failed) 1 0 + asked (failed || copies) (xs ∷ xss)
asked_more true true f xs xss e = omega arith
asked_more true false f xs xss e = omega arith
asked_more false true f xs xss e = rw e (omega arith)
asked_more false false f xs xss e = rw e (omega arith)

asked_onto : (failed copies : Bool) (f : Frame) (n : ℕ) (xss : List (List Frame)) → is_copy_in f ≡ copies → asked failed (take (suc n) (onto_first f xss)) ≡ cond (copies && not failed) 1 0 + asked (failed || copies) (take (suc n) xss)
asked_onto failed copies f n [] e = asked_one failed copies f (take n []) e (take_none n)
asked_onto failed copies f n (xs ∷ xss) e = asked_more failed copies f xs (take n xss) e

replicate-cond : (b : Bool) (n : ℕ) → replicate (cond b 1 0 + n) copy_fail ≡ cond b (copy_fail ∷ []) [] ++ replicate n copy_fail
replicate-cond true n = let z : 1 + n ≡ suc n = omega arith in ap (λ (k : ℕ). replicate k copy_fail) z
replicate-cond false n = let z : 0 + n ≡ n = omega arith in ap (λ (k : ℕ). replicate k copy_fail) z

abbrev Fails : Bool → ℕ → List Frame → Type 0
Fails failed p fs = drain_fails failed (before_readys p fs) ≡ replicate (asked failed (take p (parts fs))) copy_fail

fails_cons : (r : Bool) (failed : Bool) (f : Frame) (fs : List Frame) (n : ℕ) → is_ready f ≡ r → ((b : Bool) (p : ℕ) → Fails b p fs)
    → fails_for failed f ++ drain_fails (cond r false (failed || is_copy_in f)) (before_readys (cond r n (suc n)) fs) ≡ replicate (asked failed (take (suc n) (cond r ((f ∷ []) ∷ parts fs) (onto_first f (parts fs))))) copy_fail
fails_cons true failed f fs n e further =
    let none = ready_not_copy f e in
    ap (λ (b : Bool). cond (b && not failed) (copy_fail ∷ []) [] ++ drain_fails false (before_readys n fs)) none ∙ further false n ∙ ap (λ (k : ℕ). replicate k copy_fail) (ready_first failed f (take n (parts fs)) none)
  where
    ready_first : (failed : Bool) (f : Frame) (xss : List (List Frame)) → is_copy_in f ≡ false → asked false xss ≡ asked failed ((f ∷ []) ∷ xss)
    ready_first true f xss k = asked_first false xss ∙ omega arith
    ready_first false f xss k = asked_first false xss ∙ rw k (omega arith)
fails_cons false failed f fs n e further =
    ap (λ (t : List FrontendMessage). fails_for failed f ++ t) (further (failed || is_copy_in f) (suc n))
    ∙ sym (replicate-cond (is_copy_in f && not failed) (asked (failed || is_copy_in f) (take (suc n) (parts fs))))
    ∙ ap (λ (k : ℕ). replicate k copy_fail) (sym (asked_onto failed (is_copy_in f) f n (parts fs) refl))

fails_are : (failed : Bool) (p : ℕ) (fs : List Frame) → Fails failed p fs
fails_are failed zero fs = refl
fails_are failed (suc n) [] = refl
fails_are failed (suc n) (f ∷ fs) = fails_cons (is_ready f) failed f fs n refl (λ b p. fails_are b p fs)

-- one CopyFail for each drained response that asks for a copy, but for the first one where it is ended already
pub fails_count : (failed : Bool) (p : ℕ) (hs : List Frame) → drain_fails failed (before_readys p hs) ≡ replicate (unfed failed (take p (parts hs))) copy_fail
fails_count failed p hs = fails_are failed p hs ∙ ap (λ (k : ℕ). replicate k copy_fail) (asked_first failed (take p (parts hs)))

-- no response asks for a copy where no frame does
none_asked : (hs : List Frame) → AllByRecursion (λ frame. is_copy_in frame ≡ false) hs → (failed : Bool) → drain_fails failed hs ≡ []
none_asked [] h failed = refl
none_asked (f ∷ fs) h failed = ap (λ (b : Bool). cond (b && not failed) (copy_fail ∷ []) [] ++ drain_fails (failed_behind failed f) fs) h.0 ∙ none_asked fs h.1 (failed_behind failed f)

before_all : (p : ℕ) (hs : List Frame) → AllByRecursion (λ frame. is_copy_in frame ≡ false) hs → AllByRecursion (λ frame. is_copy_in frame ≡ false) (before_readys p hs)
before_all zero hs h = tt
before_all (suc n) [] h = tt
before_all (suc n) (f ∷ fs) h = (h.0, before_all (cond (is_ready f) n (suc n)) fs h.1)

pub fails_none : (failed : Bool) (p : ℕ) (hs : List Frame) → AllByRecursion (λ frame. is_copy_in frame ≡ false) hs → drain_fails failed (before_readys p hs) ≡ []
fails_none failed p hs h = none_asked (before_readys p hs) (before_all p hs h) failed
