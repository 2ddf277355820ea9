-- Parameters as a map keeps them, and what a frame sets of them.
use Rattle.std.proofs.Common.{◌≡◌, ◌≢◌, inl, inr, ◌++◌, ℕ, Bool, true, false, cond, List, [], ◌∷◌, map, codes, refl, sym, ap, subst, ◌∙◌, Option, Some, None, option_map, Result, Ok, Err, OnOk}
use Rattle.std.specs.String.{string_bytes, string_cmp}
use Rattle.std.specs.Str.{bytes_eq}
use Rattle.std.specs.Ordering.{nat_cmp, is_eq, match_ordering}
use Rattle.std.specs.declared.cmp.Ordering.{Ordering}
use Rattle.std.specs.declared.cmp.Ordering.TheVariants.{Less, Equal, Greater}
use Rattle.std.specs.declared.string.String.{String}
use Rattle.std.specs.Cmp.Lexicographic.{slice_cmp}
use Rattle.std.specs.Map.{lookup}
use Rattle.std.specs.BTreeMap.{is_at, insert_entry}
use Rattle.pg_wire.specs.declared.error.Error.{Error}
use Rattle.pg_wire.specs.declared.error.Error.TheVariants as errors
use Rattle.pg_wire.specs.declared.error.ProtocolFault.TheVariants as protocol
use Rattle.pg_wire.specs.declared.error.ServerFault.TheVariants as faults
use Rattle.pg_wire.specs.Frame.{Frame, is_known}
use Rattle.pg_wire.specs.Parts.{is_asynchronous}
use Rattle.pg_wire.specs.Backend.{BackendMessage, ParameterStatus}
use Rattle.pg_wire.specs.Decoding.{IsRefused}
use Rattle.pg_wire.proofs.Unique.{backend_frame_unique}
use Rattle.std.specs.List.{AllByRecursion}
use Rattle.std.proofs.lemmas.Map.Text.{is_eq-slice_cmp}
use Rattle.std.proofs.lemmas.Slice.Eq.{bytes_eq-Decides}
use Rattle.pg_stream.specs.Parameters.{ParametersSeen, with_value, Carries, SetsBy, SetsByAll, IsKept, KeepsLastValues}
use Rattle.pg_stream.specs.Streams.{framed}
use Rattle.pg_wire.proofs.Tests.{not_true}

-- ---- the map's texts

abbrev pub text_pair : {Y Z : Type 0} → String Y × String Z → List ℕ × List ℕ
text_pair e = (string_bytes e.0, string_bytes e.1)

found : {Z : Type 0} (t : Bool) (x : String Z) (a : Option (List ℕ)) (b : Option (String Z)) → a ≡ option_map string_bytes b → cond t (Some (string_bytes x)) a ≡ option_map string_bytes (cond t (Some x) b)
found true x a b e = refl
found false x a b e = e

pub lookup_texts : {Y Z : Type 0} (name : List ℕ) (es : List (String Y × String Z)) → lookup (is_at (slice_cmp nat_cmp name)) (map text_pair es) ≡ option_map string_bytes (lookup (is_at (λ k. slice_cmp nat_cmp name (string_bytes k))) es)
lookup_texts name [] = refl
lookup_texts name (e ∷ es) = found (is_eq (slice_cmp nat_cmp name (string_bytes e.0))) e.1 _ _ (lookup_texts name es)

placed : {Y Z : Type 0} (o : Ordering) (a b c : List (String Y × String Z)) → map text_pair (match_ordering o a b c) ≡ match_ordering o (map text_pair a) (map text_pair b) (map text_pair c)
placed Less a b c = refl
placed Equal a b c = refl
placed Greater a b c = refl

pub insert_texts : {Y Z : Type 0} (es : List (String Y × String Z)) (k : String Y) (v : String Z) → map text_pair (insert_entry string_cmp es k v) ≡ insert_entry (slice_cmp nat_cmp) (map text_pair es) (string_bytes k) (string_bytes v)
insert_texts [] k v = refl
insert_texts (e ∷ es) k v =
    placed (string_cmp k e.0) ((k, v) ∷ e ∷ es) ((e.0, v) ∷ es) (e ∷ insert_entry string_cmp es k v)
    ∙ ap (λ (c : List (List ℕ × List ℕ)). match_ordering (string_cmp k e.0) (text_pair (k, v) ∷ text_pair e ∷ map text_pair es) ((string_bytes e.0, string_bytes v) ∷ map text_pair es) (text_pair e ∷ c)) (insert_texts es k v)

pub sets_other : (name value : List ℕ) (p : ParametersSeen) → bytes_eq name (codes "server_version") ≡ false → record p { values = insert_entry (slice_cmp nat_cmp) p.values name value } ≡ with_value name value p
sets_other name value p e = rw e refl

-- ---- what a frame sets

-- a frame with another tag tells no parameter
pub sets_none : (frame : Frame) (p : ParametersSeen) → frame.tag ≢ 83 → SetsBy frame p p
sets_none frame p n = inr (λ name value c. n (ap (λ (f : Frame). f.tag) (sym c.1)), refl)

heard_tag : (frame : Frame) → is_asynchronous frame ≡ false → frame.tag ≢ 83
heard_tag frame h e = absurd cc (h, ap (is_known (codes "NSA")) e)

pub sets_heard : (frame : Frame) (p : ParametersSeen) → is_asynchronous frame ≡ false → SetsBy frame p p
sets_heard frame p h = sets_none frame p (heard_tag frame h)

pub sets_told : (frame : Frame) (n v : List ℕ) (a b : ParametersSeen) → Carries frame (ParameterStatus n v) → b ≡ with_value n v a → SetsBy frame a b
sets_told frame n v a b h e = inl (n, v, h, e)

-- a body that is refused tells none
pub sets_refused : (body : List ℕ) (e : Error) (p : ParametersSeen) → IsRefused 83 body e → e ≢ errors.OutOfMemory → SetsBy (framed 83 body) p p
sets_refused body (errors.Protocol (protocol.Server (faults.Malformed named))) p r n = inr (λ name value c. r.1 (ParameterStatus name value) c, refl)
sets_refused body errors.OutOfMemory p r n = absurd (n refl)
sets_refused body _ p r n = absurd r

pub sets_unless : {X E : Type 0} (r : Result X E) (e : Error) (tag : ℕ) (body : List ℕ) (a b : ParametersSeen) → OnOk r (e ≢ errors.OutOfMemory) → IsRefused 83 body e → b ≡ a → tag ≡ 83 → OnOk r (SetsBy (framed tag body) a b)
sets_unless (Ok x) e tag body a b n r same t = subst (λ (m : ParametersSeen). SetsBy (framed tag body) a m) (sym same) (subst (λ (k : ℕ). SetsBy (framed k body) a a) (sym t) (sets_refused body e a r n))
sets_unless (Err y) e tag body a b n r same t = tt

-- ---- the last value

name_of : BackendMessage → List ℕ
name_of (ParameterStatus name value) = name
name_of _ = []

setting_of : BackendMessage → List ℕ
setting_of (ParameterStatus name value) = value
setting_of _ = []

-- a frame tells one value of one name
same_value : (frame : Frame) (n n' v v' : List ℕ) (p : ParametersSeen) → Carries frame (ParameterStatus n v) → Carries frame (ParameterStatus n' v') → with_value n v p ≡ with_value n' v' p
unfolding name_of setting_of
same_value frame n n' v v' p h k =
    let same = backend_frame_unique (ParameterStatus n v) (ParameterStatus n' v') h.0 k.0 (h.1 ∙ sym k.1) in
    ap (λ (m : BackendMessage). with_value (name_of m) (setting_of m) p) same

at_self : (n : List ℕ) → is_eq (slice_cmp nat_cmp n n) ≡ true
at_self n = is_eq-slice_cmp n n ∙ (bytes_eq-Decides n n).1 refl

at_apart : (q n : List ℕ) → q ≢ n → is_eq (slice_cmp nat_cmp q n) ≡ false
at_apart q n apart = is_eq-slice_cmp q n ∙ not_true (bytes_eq q n) (λ e. apart ((bytes_eq-Decides q n).0 e))

same_key : (n k : List ℕ) → slice_cmp nat_cmp n k ≡ Equal → n ≡ k
same_key n k e = (bytes_eq-Decides n k).0 (sym (is_eq-slice_cmp n k) ∙ ap is_eq e)

abbrev at : List ℕ → List (List ℕ × List ℕ) → Option (List ℕ)
at q es = lookup (is_at (slice_cmp nat_cmp q)) es

abbrev put : List (List ℕ × List ℕ) → List ℕ → List ℕ → List (List ℕ × List ℕ)
put es n v = insert_entry (slice_cmp nat_cmp) es n v

same_at : (e : List ℕ × List ℕ) (es : List (List ℕ × List ℕ)) (n v : List ℕ) (o : Ordering) → slice_cmp nat_cmp n e.0 ≡ o → at n (put es n v) ≡ Some v → at n (match_ordering o ((n, v) ∷ e ∷ es) ((e.0, v) ∷ es) (e ∷ put es n v)) ≡ Some v
same_at e es n v Less o h = ap (λ (t : Bool). cond t (Some v) (at n (e ∷ es))) (at_self n)
same_at e es n v Equal o h = ap (λ (r : Ordering). cond (is_eq r) (Some v) (at n es)) o
same_at e es n v Greater o h = ap (λ (r : Ordering). cond (is_eq r) (Some e.1) (at n (put es n v))) o ∙ h

value_same : (es : List (List ℕ × List ℕ)) (n v : List ℕ) → at n (put es n v) ≡ Some v
value_same [] n v = ap (λ (t : Bool). cond t (Some v) None) (at_self n)
value_same (e ∷ es) n v = same_at e es n v (slice_cmp nat_cmp n e.0) refl (value_same es n v)

other_at : (e : List ℕ × List ℕ) (es : List (List ℕ × List ℕ)) (n q v : List ℕ) (o : Ordering) → q ≢ n → slice_cmp nat_cmp n e.0 ≡ o → at q (put es n v) ≡ at q es → at q (match_ordering o ((n, v) ∷ e ∷ es) ((e.0, v) ∷ es) (e ∷ put es n v)) ≡ at q (e ∷ es)
other_at e es n q v Less apart o h = ap (λ (t : Bool). cond t (Some v) (at q (e ∷ es))) (at_apart q n apart)
other_at e es n q v Equal apart o h =
    let no : is_eq (slice_cmp nat_cmp q e.0) ≡ false = at_apart q e.0 (λ s. apart (s ∙ sym (same_key n e.0 o))) in
    ap (λ (t : Bool). cond t (Some v) (at q es)) no ∙ sym (ap (λ (t : Bool). cond t (Some e.1) (at q es)) no)
other_at e es n q v Greater apart o h = ap (λ (r : Option (List ℕ)). cond (is_eq (slice_cmp nat_cmp q e.0)) (Some e.1) r) h

value_other : (es : List (List ℕ × List ℕ)) (n q v : List ℕ) → q ≢ n → at q (put es n v) ≡ at q es
value_other [] n q v apart = ap (λ (t : Bool). cond t (Some v) None) (at_apart q n apart)
value_other (e ∷ es) n q v apart = other_at e es n q v (slice_cmp nat_cmp n e.0) apart refl (value_other es n q v apart)

kept_now : (n v : List ℕ) (a : ParametersSeen) (t : Bool) → bytes_eq n (codes "server_version") ≡ t → IsKept n v (with_value n v a)
kept_now n v a true e = rw e refl
kept_now n v a false e = rw e (value_same a.values n v)

-- another parameter leaves it
kept_by : (n v q w : List ℕ) (a : ParametersSeen) (s t : Bool) → bytes_eq n (codes "server_version") ≡ s → bytes_eq q (codes "server_version") ≡ t → q ≢ n → IsKept q w a → IsKept q w (with_value n v a)
kept_by n v q w a true true s t apart k = absurd (apart ((bytes_eq-Decides q (codes "server_version")).0 t ∙ sym ((bytes_eq-Decides n (codes "server_version")).0 s)))
kept_by n v q w a true false s t apart k = rw (s, t) (rw t at k)
kept_by n v q w a false true s t apart k = rw (s, t) (rw t at k)
kept_by n v q w a false false s t apart k = rw (s, t) (value_other a.values n q v apart ∙ rw t at k)

kept_after : (n v q w : List ℕ) (a : ParametersSeen) → q ≢ n → IsKept q w a → IsKept q w (with_value n v a)
kept_after n v q w a = kept_by n v q w a (bytes_eq n (codes "server_version")) (bytes_eq q (codes "server_version")) refl refl

-- frames that tell nothing of a parameter leave it
kept_on : (frames : List Frame) (q w : List ℕ) (a b : ParametersSeen) → AllByRecursion (λ f. (other : List ℕ) → Carries f (ParameterStatus q other) → ⊥) frames → SetsByAll frames a b → IsKept q w a → IsKept q w b
kept_on [] q w a b silent s k = subst (IsKept q w) (sym s) k
kept_on (f ∷ fs) q w a b silent s k =
    let next : IsKept q w s.0 = elim s.1 [
      | inl t ↦ subst (IsKept q w) (sym t.3) (kept_after t.0 t.1 q w a (λ e. silent.0 t.1 (subst (λ (n : List ℕ). Carries f (ParameterStatus n t.1)) (sym e) t.2)) k)
      | inr t ↦ subst (IsKept q w) (sym t.1) k
    ] in
    kept_on fs q w s.0 b silent.1 s.2 next

kept_from : (before : List Frame) (frame : Frame) (after : List Frame) (q w : List ℕ) (a b : ParametersSeen) → Carries frame (ParameterStatus q w) → AllByRecursion (λ f. (other : List ℕ) → Carries f (ParameterStatus q other) → ⊥) after
    → SetsByAll (before ++ frame ∷ after) a b → IsKept q w b
kept_from [] frame after q w a b told silent s =
    let now : IsKept q w s.0 = elim s.1 [
      | inl t ↦ subst (IsKept q w) (sym (t.3 ∙ same_value frame t.0 q t.1 w a t.2 told)) (kept_now q w a (bytes_eq q (codes "server_version")) refl)
      | inr t ↦ absurd (t.0 q w told)
    ] in
    kept_on after q w s.0 b silent s.2 now
kept_from (f ∷ fs) frame after q w a b told silent s = kept_from fs frame after q w s.0 b told silent s.2

pub keeps_last : KeepsLastValues
keeps_last frames a b s q w last = kept_from last.before last.frame last.after q w a b last.told last.silent (subst (λ (fs : List Frame). SetsByAll fs a b) last.parts s)
