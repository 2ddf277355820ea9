-- What std and the kit say of texts, in the words of `specs/UrlTexts`.
use Rattle.std.proofs.Common.{◌≡◌, ℕ, ◌+◌, ◌-◌, ◌<◌, Bool, true, false, nat_eq, List, [], ◌∷◌, length, get_or, Option, Some, None, is_some, option_copied, MatchOption, Result, Ok, Err, Bor, refl, sym, ◌∙◌, subst, arith, append-nil, is_ok, lit≤, ne_eqb}
use Rattle.std.specs.List.{list_all, starts_with, ends_with}
use Rattle.std.specs.Str.{IsUtf8, is_utf8, IsCharBoundary}
use Rattle.std.specs.Str.Pattern.{FindsTextPrefix, FindsTextSuffix, StripsPrefix, StripsSuffix}
use Rattle.std.proofs.lemmas.Str.{IsUtf8-from_is_utf8, is_utf8-from_IsUtf8}
use Rattle.std.proofs.lemmas.Str.Pattern.{starts_text, ends_text}
use Rattle.std.specs.Net.Addr.{ipv4_octets}
use Rattle.std.specs.Net.Grammar.{IsDotted, IsIpv4Text, Parses}
use Rattle.std.specs.Net.Reader.{read_ipv4, whole_value}
use Rattle.std.specs.declared.net.ipv4_addr.Ipv4Addr.{Ipv4Addr}
use Rattle.std.proofs.NetLemmas.Ipv4.{read_ipv4_sound, read_ipv4_complete}
use Rattle.percent_encoding.specs.Percent.{percent_decode}
use Rattle.pg_wire.specs.declared.error.Error.TheVariants.{Configuration}
use Rattle.pg_wire.specs.declared.error.ConfigPart.TheVariants.{Utf8}
use Rattle.pg_options.specs.UrlTexts.{decoded_text, behind_front, before_back, is_ipv4}
use native.Mathlib.Numerals.{unary_clauses}

-- a front, cut off or not there
pub cut_front : (r : Option (Bor (List ℕ))) (front text : List ℕ)
    → MatchOption r (FindsTextPrefix front text None) (λ x. StripsPrefix (FindsTextPrefix front) text x.now)
    → option_copied r ≡ behind_front front text
unfolding behind_front
cut_front None front text h = rw (sym (starts_text false front text h)) refl
cut_front (Some x) front text h =
    let n : h.0 ≡ length front = h.1.0 in
    let there : starts_with nat_eq text front ≡ true
    = sym (starts_text true front text (h.0, h.1, subst (λ k. IsCharBoundary text k) (sym n) h.1.2)) in
    rw (there, h.2, n) refl

-- a back, cut off or not there
pub cut_back : (r : Option (Bor (List ℕ))) (back text : List ℕ)
    → MatchOption r (FindsTextSuffix back text None) (λ x. StripsSuffix (FindsTextSuffix back) text x.now)
    → option_copied r ≡ before_back back text
unfolding before_back
cut_back None back text h = rw (sym (ends_text false back text h)) refl
cut_back (Some x) back text h =
    let n : h.0 ≡ length back = h.1.0 in
    let there : ends_with nat_eq text back ≡ true
    = sym (ends_text true back text (h.0, h.1, omega (arith, h.3), subst (λ k. IsCharBoundary text (length text - k)) (sym n) h.1.2)) in
    rw (there, h.2, n) refl

-- a part that is text, and one that isn't
pub decoded_ok : (part text : List ℕ) → text ≡ percent_decode part → IsUtf8 (percent_decode part) → decoded_text part ≡ Ok text
unfolding decoded_text
decoded_ok part text e u = rw (is_utf8-from_IsUtf8 (percent_decode part) u, e) refl

not_utf8 : (b : Bool) (bs : List ℕ) → is_utf8 bs ≡ b → (IsUtf8 bs → ⊥) → b ≡ false
not_utf8 true bs e h = absurd (h (IsUtf8-from_is_utf8 bs e))
not_utf8 false bs e h = refl

pub decoded_err : (part : List ℕ) → (IsUtf8 (percent_decode part) → ⊥) → decoded_text part ≡ Err (Configuration Utf8 0)
unfolding decoded_text
decoded_err part h = rw (not_utf8 (is_utf8 (percent_decode part)) (percent_decode part) refl h) refl

-- bytes that all pass, one by one
pub all_pass : (test : ℕ → Bool) (xs : List ℕ) → ((k : ℕ) → k < length xs → test (get_or xs k 0) ≡ true) → list_all test xs ≡ true
all_pass test [] h = refl
all_pass test (x ∷ xs) h =
    rw (h 0 (omega arith)) (all_pass test xs (λ k l. simp unary_clauses at (h (k + 1) (omega arith))))

-- an IPv4 address is what std reads whole
reads_part : (text : List ℕ) (o : Option (List ℕ × List ℕ)) → read_ipv4 text ≡ o → ((a : Ipv4Addr) → IsIpv4Text text a → ⊥)
    → false ≡ is_some (whole_value o)
reads_part text None e h = refl
reads_part text (Some (octets, [])) e h =
    let found = read_ipv4_sound text octets [] e in
    absurd (h (record { octets = octets }) (subst (λ t. IsDotted t octets) (sym (found.1 ∙ append-nil found.0)) found.2))
reads_part text (Some (octets, c ∷ rest)) e h = rw (ne_eqb (length (c ∷ rest)) 0 (omega arith)) refl

pub ipv4_read : {E : Type 0} (text : List ℕ) (r : Result Ipv4Addr E) → Parses IsIpv4Text text r → is_ok r ≡ is_ipv4 text
unfolding is_ipv4
ipv4_read text (Ok a) h =
    let whole = rw append-nil at (read_ipv4_complete text (ipv4_octets a) [] h (lit≤ tt)) in
    rw whole refl
ipv4_read text (Err e) h = reads_part text (read_ipv4 text) refl h
