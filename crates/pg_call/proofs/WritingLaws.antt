-- What is written for a request: values that a frame can carry, and frames behind one another.
use Rattle.std.proofs.Common.{◌≡◌, ℕ, suc, ◌+◌, ◌<◌, ◌≤◌, List, [], ◌∷◌, ◌++◌, length, map, take, get_or, flat_map, Option, refl, sym, ap, subst, ◌∙◌, append_assoc, append-nil, arith}
use Rattle.std.proofs.Math.Seq.{take-suc}
use Rattle.std.proofs.lemmas.List.{map-append, take_all}
use Rattle.std.specs.Prelude.{Result, Ok, Err, OnOk}
use Rattle.std.specs.List.{AllByRecursion}
use Rattle.pg_wire.specs.Bytes.{value}
use Rattle.pg_wire.specs.Encoding.{body_max}
use Rattle.pg_wire.specs.Frame.{Frame, bytes_of, text_of}
use Rattle.pg_wire.specs.Frontend.{FitsValue, FrontendMessage, CloseStatement, Sync, frontend_frame, HasFrontendFrame}
use Rattle.pg_exchanges.specs.Answering.{closing}
use Rattle.pg_call.specs.Requests.{close_of, name_of, spelled}
use Rattle.pg_wire.proofs.BoundLaws.{fit_within}

-- values that a frame can carry are short enough each
pub values_fit : (values : List (Option (List ℕ))) (encoded : List ℕ) → flat_map value values ≡ encoded → length encoded + 12 ≤ body_max → AllByRecursion FitsValue values
values_fit values encoded e l = fit_within values (omega (arith, l, ap (λ (x : List ℕ). length x) e))

-- one more frame in front of others
one_more : (f : Frame) (fs : List Frame) (a b c : List ℕ) → b ≡ a ++ bytes_of f → c ≡ b ++ text_of fs → c ≡ a ++ text_of (f ∷ fs)
one_more f fs a b c e h = h ∙ ap (λ (x : List ℕ). x ++ text_of fs) e ∙ append_assoc a (bytes_of f) (text_of fs)

last_one : (f : Frame) (a b : List ℕ) → b ≡ a ++ bytes_of f → b ≡ a ++ text_of (f ∷ [])
last_one f a b e = e ∙ ap (λ (x : List ℕ). a ++ x) (sym (append-nil (bytes_of f)))

-- four frames, of which the last may fail
pub four_frames : {X E : Type 0} (result : Result X E) (f g h i : Frame) (a b c d e : List ℕ) → b ≡ a ++ bytes_of f → c ≡ b ++ bytes_of g → d ≡ c ++ bytes_of h → OnOk result (e ≡ d ++ bytes_of i) → OnOk result (e ≡ a ++ text_of (f ∷ g ∷ h ∷ i ∷ []))
four_frames (Ok x) f g h i a b c d e p q r s = one_more f (g ∷ h ∷ i ∷ []) a b e p (one_more g (h ∷ i ∷ []) b c e q (one_more h (i ∷ []) c d e r (last_one i d e s)))
four_frames (Err x) f g h i a b c d e p q r s = tt

-- the first of these statements are closed
pub record Closed (statements : List ℕ) (count : ℕ) (start now : List ℕ) : Type 0 where
  out : now ≡ start ++ spelled (map close_of (take count statements))
  said : AllByRecursion HasFrontendFrame (map close_of (take count statements))

text_append : (xs ys : List Frame) → text_of (xs ++ ys) ≡ text_of xs ++ text_of ys
text_append [] ys = refl
text_append (x ∷ xs) ys = ap (λ (z : List ℕ). bytes_of x ++ z) (text_append xs ys) ∙ sym (append_assoc (bytes_of x) (text_of xs) (text_of ys))

spelled-push : (ms : List FrontendMessage) (m : FrontendMessage) → spelled (ms ++ m ∷ []) ≡ spelled ms ++ bytes_of (frontend_frame m)
spelled-push ms m = ap text_of (map-append frontend_frame ms (m ∷ [])) ∙ text_append (map frontend_frame ms) (frontend_frame m ∷ []) ∙ ap (λ (x : List ℕ). spelled ms ++ x) (append-nil (bytes_of (frontend_frame m)))

each_last : (ms : List FrontendMessage) (m : FrontendMessage) → AllByRecursion HasFrontendFrame ms → HasFrontendFrame m → AllByRecursion HasFrontendFrame (ms ++ m ∷ [])
each_last [] m all last = (last, tt)
each_last (x ∷ xs) m all last = (all.0, each_last xs m all.1 last)

pub closed_none : (statements start : List ℕ) → Closed statements 0 start start
closed_none statements start = record { out = sym (append-nil start); said = tt }

-- and one more
pub closed_next : (statements : List ℕ) (count number : ℕ) (start now next : List ℕ) → count < length statements → number ≡ get_or statements count number → Closed statements count start now → next ≡ now ++ bytes_of (frontend_frame (close_of number)) → HasFrontendFrame (close_of number) → Closed statements (count + 1) start next
closed_next statements count number start now next l is c e h =
    let one : count + 1 ≡ suc count = omega arith in
    let more : map close_of (take (count + 1) statements) ≡ map close_of (take count statements) ++ close_of number ∷ [] =
    ap (λ (n : ℕ). map close_of (take n statements)) one ∙ ap (map close_of) (take-suc statements count number l) ∙ map-append close_of (take count statements) (get_or statements count number ∷ []) ∙ ap (λ (n : ℕ). map close_of (take count statements) ++ close_of n ∷ []) (sym is) in
    record {
      out = rw more (e ∙ ap (λ (x : List ℕ). x ++ bytes_of (frontend_frame (close_of number))) c.out ∙ append_assoc start (spelled (map close_of (take count statements))) (bytes_of (frontend_frame (close_of number)))
          ∙ ap (λ (x : List ℕ). start ++ x) (sym (spelled-push (map close_of (take count statements)) (close_of number))));
      said = rw more (each_last (map close_of (take count statements)) (close_of number) c.said h);
    }

-- all of them
pub record ClosedAll (statements start now : List ℕ) : Type 0 where
  pub out : now ≡ start ++ spelled (map close_of statements)
  pub said : AllByRecursion HasFrontendFrame (map close_of statements)

pub closed_all : (statements : List ℕ) (count : ℕ) (start now : List ℕ) → length statements ≤ count → Closed statements count start now → ClosedAll statements start now
closed_all statements count start now l c =
    let all : take count statements ≡ statements = take_all count statements l in
    record { out = rw (← all) c.out; said = rw (← all) c.said }

closes_are : (statements : List ℕ) → map CloseStatement (map name_of statements) ≡ map close_of statements
closes_are [] = refl
closes_are (s ∷ ss) = ap (λ (ms : List FrontendMessage). close_of s ∷ ms) (closes_are ss)

-- and the end of their group
pub closes_out : {X E : Type 0} (result : Result X E) (statements a b c : List ℕ) → b ≡ a ++ spelled (map close_of statements) → OnOk result (c ≡ b ++ bytes_of (frontend_frame Sync)) → OnOk result (c ≡ a ++ spelled (closing (map name_of statements)))
closes_out (Ok x) statements a b c e k =
    k ∙ ap (λ (x : List ℕ). x ++ bytes_of (frontend_frame Sync)) e ∙ append_assoc a (spelled (map close_of statements)) (bytes_of (frontend_frame Sync))
    ∙ ap (λ (x : List ℕ). a ++ x) (sym (spelled-push (map close_of statements) Sync)) ∙ ap (λ (ms : List FrontendMessage). a ++ spelled (ms ++ Sync ∷ [])) (sym (closes_are statements))
closes_out (Err x) statements a b c e k = tt

pub closes_said : {X E : Type 0} (result : Result X E) (statements : List ℕ) → AllByRecursion HasFrontendFrame (map close_of statements) → OnOk result (AllByRecursion HasFrontendFrame (closing (map name_of statements)))
closes_said (Ok x) statements all = subst (λ (ms : List FrontendMessage). AllByRecursion HasFrontendFrame (ms ++ Sync ∷ [])) (sym (closes_are statements)) (each_last (map close_of statements) Sync all tt)
closes_said (Err x) statements all = tt

spelled_both : (xs ys : List FrontendMessage) → spelled (xs ++ ys) ≡ spelled xs ++ spelled ys
spelled_both xs ys = ap text_of (map-append frontend_frame xs ys) ∙ text_append (map frontend_frame xs) (map frontend_frame ys)

-- messages, and more behind them
pub both_out : {X E : Type 0} (result : Result X E) (xs ys : List FrontendMessage) (a b c : List ℕ) → b ≡ a ++ spelled xs → OnOk result (c ≡ b ++ spelled ys) → OnOk result (c ≡ a ++ spelled (xs ++ ys))
both_out (Ok x) xs ys a b c p q = rw (q, p, spelled_both xs ys) (append_assoc a (spelled xs) (spelled ys))
both_out (Err e) xs ys a b c p q = tt

each_both : (xs ys : List FrontendMessage) → AllByRecursion HasFrontendFrame xs → AllByRecursion HasFrontendFrame ys → AllByRecursion HasFrontendFrame (xs ++ ys)
each_both [] ys h k = k
each_both (x ∷ xs) ys h k = (h.0, each_both xs ys h.1 k)

pub both_said : {X E : Type 0} (result : Result X E) (xs ys : List FrontendMessage) → AllByRecursion HasFrontendFrame xs → OnOk result (AllByRecursion HasFrontendFrame ys) → OnOk result (AllByRecursion HasFrontendFrame (xs ++ ys))
both_said (Ok x) xs ys h k = each_both xs ys h k
both_said (Err e) xs ys h k = tt
