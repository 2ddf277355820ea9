-- Data that is queued part by part.
use Rattle.std.proofs.Common.{◌≡◌, ℕ, zero, suc, ◌<◌, ◌≤◌, min, cond, Bool, false, List, [], ◌∷◌, ◌++◌, length, map, drop, take, flat_map, refl, sym, ap, ◌∙◌, arith, append_assoc, append-nil, nat_eq, ne_eqb, get_or, ◌+◌, Result, Ok, Err, length-drop}
use Rattle.std.proofs.lemmas.List.{drop_more, map-append}
use Rattle.pg_wire.specs.declared.error.Error.{Error}
use Rattle.pg_wire.specs.declared.error.Error.TheVariants as errors
use Rattle.pg_wire.specs.declared.error.ProtocolFault.TheVariants as protocol
use Rattle.pg_wire.specs.declared.error.CallerFault.TheVariants as callers
use Rattle.pg_wire.specs.Encoding.{Refuses}
use Rattle.pg_wire.specs.Frontend.{FrontendMessage, CopyData}
use Rattle.pg_conn.specs.Connections.{ConnOf, piece_of, with_messages}
use Rattle.pg_call.specs.Requests.{spelled}
use Rattle.pg_conn.proofs.OwedLaws.{spelled-append}
use Rattle.pg_play.specs.Feeding.{Feeds, FeedsWhole, cut, cut_in, fed_with}

cut_same : (most n m : ℕ) (bytes : List ℕ) → 0 < most → length bytes ≤ n → length bytes ≤ m → cut_in most n bytes ≡ cut_in most m bytes
cut_same most zero zero bytes p l k = refl
cut_same most zero (suc m) [] p l k = refl
cut_same most zero (suc m) (b ∷ bs) p l k = absurd (omega (arith, l))
cut_same most (suc n) zero [] p l k = refl
cut_same most (suc n) zero (b ∷ bs) p l k = absurd (omega (arith, k))
cut_same most (suc n) (suc m) [] p l k = refl
cut_same most (suc n) (suc m) (b ∷ bs) p l k =
    let size : ℕ = min (length (b ∷ bs)) most in
    let shorter = length-drop size (b ∷ bs) in
    ap (λ (t : List (List ℕ)). take size (b ∷ bs) ∷ t) (cut_same most n m (drop size (b ∷ bs)) p (omega (arith, p, l, shorter)) (omega (arith, p, k, shorter)))

cut_one : (most : ℕ) (bytes : List ℕ) → 0 < most → 0 < length bytes → cut_in most (length bytes) bytes ≡ take (min (length bytes) most) bytes ∷ cut_in most (length (drop (min (length bytes) most) bytes)) (drop (min (length bytes) most) bytes)
cut_one most [] p l = absurd (omega (arith, l))
cut_one most (b ∷ bs) p l =
    let size : ℕ = min (length (b ∷ bs)) most in
    let shorter = length-drop size (b ∷ bs) in
    ap (λ (t : List (List ℕ)). take size (b ∷ bs) ∷ t) (cut_same most (length bs) (length (drop size (b ∷ bs))) (drop size (b ∷ bs)) p (omega (arith, p, shorter)) (omega arith))

-- bytes are a first part and what comes of the rest
pub cut_step : (bytes : List ℕ) → 0 < length bytes → cut bytes ≡ take (min (length bytes) 1073741818) bytes ∷ cut (drop (min (length bytes) 1073741818) bytes)
cut_step bytes l = cut_one 1073741818 bytes (omega arith) l

pub cut_none : (bytes : List ℕ) → length bytes ≡ 0 → cut bytes ≡ []
cut_none [] e = refl
cut_none (b ∷ bs) e = absurd (omega (arith, e))

-- ---- parts that are queued one behind another

fed_front : {A : Type 0} (piece : List ℕ) (parts : List (List ℕ)) (c : ConnOf A) → fed_with parts (with_messages (CopyData piece ∷ []) c) ≡ fed_with (piece ∷ parts) c
fed_front piece parts c = ap (λ (u : List ℕ). record c { stream = record c.stream { unsent = u } }) (append_assoc c.stream.unsent (spelled (CopyData piece ∷ [])) (spelled (map CopyData parts)) ∙ ap (λ (u : List ℕ). c.stream.unsent ++ u) (sym (spelled-append (CopyData piece ∷ []) (map CopyData parts))))

fed_both : {A : Type 0} (ps qs : List (List ℕ)) (c : ConnOf A) → fed_with qs (fed_with ps c) ≡ fed_with (ps ++ qs) c
fed_both ps qs c = ap (λ (u : List ℕ). record c { stream = record c.stream { unsent = u } }) (append_assoc c.stream.unsent (spelled (map CopyData ps)) (spelled (map CopyData qs)) ∙ ap (λ (u : List ℕ). c.stream.unsent ++ u) (sym (spelled-append (map CopyData ps) (map CopyData qs)) ∙ ap spelled (sym (map-append CopyData ps qs))))

fed_nothing : {A : Type 0} (c : ConnOf A) → c ≡ fed_with [] c
fed_nothing c = ap (λ (u : List ℕ). record c { stream = record c.stream { unsent = u } }) (sym (append-nil c.stream.unsent))

pub feeds_none : {A : Type 0} (a : ConnOf A) (parts : List (List ℕ)) → parts ≡ [] → Feeds a a parts (Ok tt)
feeds_none a parts e = fed_nothing a ∙ ap (λ (p : List (List ℕ)). fed_with p a) (sym e)

one_piece : (piece : List ℕ) → 0 < length piece → piece_of piece ≡ CopyData piece ∷ []
one_piece piece l = ap (λ (b : Bool). cond b [] (CopyData piece ∷ [])) (ne_eqb (length piece) 0 (λ z. omega (arith, l, z)))

-- a part, and then the others
pub feeds_more : {A : Type 0} (a b c : ConnOf A) (piece : List ℕ) (parts : List (List ℕ)) (result : Result (Unit {0}) Error) → 0 < length piece → b ≡ with_messages (piece_of piece) a → Feeds b c parts result → Feeds a c (piece ∷ parts) result
feeds_more a b c piece parts (Ok u) l e f = f ∙ ap (λ (x : ConnOf _). fed_with parts x) (e ∙ ap (λ (m : List FrontendMessage). with_messages m a) (one_piece piece l)) ∙ fed_front piece parts a
feeds_more a b c piece parts (Err x) l e (k, (front, more, is)) = (k, (piece ∷ front, (more.0, ap (λ (t : List (List ℕ)). piece ∷ t) more.1), is ∙ ap (λ (y : ConnOf _). fed_with front y) (e ∙ ap (λ (m : List FrontendMessage). with_messages m a) (one_piece piece l)) ∙ fed_front piece front a))

-- the first part, for which there was no memory
pub feeds_stops : {A : Type 0} (a b : ConnOf A) (parts : List (List ℕ)) (e : Error) → e ≡ errors.OutOfMemory → b ≡ a → Feeds a b parts (Err e)
feeds_stops a b parts e k is = (k, ([], (parts, refl), is ∙ fed_nothing a))

-- all of these, and then others
pub feeds_then : {A : Type 0} (a b c : ConnOf A) (ps qs : List (List ℕ)) (result : Result (Unit {0}) Error) → Feeds a b ps (Ok tt) → Feeds b c qs result → Feeds a c (ps ++ qs) result
feeds_then a b c ps qs (Ok u) e f = f ∙ ap (λ (x : ConnOf _). fed_with qs x) e ∙ fed_both ps qs a
feeds_then a b c ps qs (Err x) e (k, (front, more, is)) = (k, (ps ++ front, (more.0, append_assoc ps front more.0 ∙ ap (λ (t : List (List ℕ)). ps ++ t) more.1), is ∙ ap (λ (y : ConnOf _). fed_with front y) e ∙ fed_both ps front a))

pub feeds_fewer : {A : Type 0} (a b : ConnOf A) (ps qs : List (List ℕ)) (e : Error) → Feeds a b ps (Err e) → Feeds a b (ps ++ qs) (Err e)
feeds_fewer a b ps qs e (k, (front, more, is)) = (k, (front, (more.0 ++ qs, sym (append_assoc front more.0 qs) ∙ ap (λ (t : List (List ℕ)). t ++ qs) more.1), is))

-- a part is never too long
pub refuses_memory : (size : ℕ) (e : Error) → size ≤ 1073741818 → Refuses 0 (Unit {0}) size e → e ≡ errors.OutOfMemory
refuses_memory size errors.OutOfMemory l r = refl
refuses_memory size (errors.Protocol (protocol.Caller (callers.TooMany n))) l r = absurd (omega (arith, r.1))
refuses_memory size (errors.Protocol (protocol.Caller callers.Nul)) l r = absurd (r.1 tt)
refuses_memory size (errors.Protocol (protocol.Caller (callers.TooLong n))) l r = absurd (omega (arith, l, r.3))
refuses_memory size (errors.Protocol (protocol.Caller _)) l r = absurd r
refuses_memory size (errors.Protocol _) l r = absurd r
refuses_memory size _ l r = absurd r

-- without memory for the end nothing but the parts is queued
pub whole_stops : {A : Type 0} (a b c : ConnOf A) (parts : List (List ℕ)) (e : Error) → Feeds a b parts (Ok tt) → e ≡ errors.OutOfMemory → c ≡ b → FeedsWhole a c parts (Err e)
whole_stops a b c parts e f k is = (k, (parts, ([], append-nil parts), is ∙ f))

pub some_bytes : (n : ℕ) → nat_eq n 0 ≡ false → 0 < n
some_bytes zero e = absurd cc
some_bytes (suc n) e = omega arith

-- so is what is taken of some
pub first_some : (bytes : List ℕ) (n : ℕ) → 0 < length bytes → 0 < n → 0 < length (take n bytes)
first_some [] n l k = absurd (omega (arith, l))
first_some (b ∷ bs) zero l k = absurd (omega (arith, k))
first_some (b ∷ bs) (suc n) l k = omega arith

-- a piece, and those behind it
pub pieces_from : (pieces : List (List ℕ)) (i : ℕ) (piece : List ℕ) → i < length pieces → piece ≡ get_or pieces i piece → flat_map cut (drop i pieces) ≡ cut piece ++ flat_map cut (drop (i + 1) pieces)
pieces_from pieces i piece l e = ap (flat_map cut) (drop_more pieces i piece l) ∙ ap (λ (x : List ℕ). cut x ++ flat_map cut (drop (i + 1) pieces)) (sym e)
