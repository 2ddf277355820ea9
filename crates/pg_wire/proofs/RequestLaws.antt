-- What an Authentication message asks for, and the names of mechanisms.
use Rattle.std.proofs.Common.{◌≡◌, ◌≢◌, ℕ, zero, suc, Bool, true, false, cond, eqb, List, [], ◌∷◌, ◌++◌, length, get_or, Option, Some, None, refl, sym, ap, subst, ◌∙◌, arith, flat_map, ne_eqb}
use Rattle.std.specs.Prelude.{IsTrue, IsFalse}
use Rattle.std.specs.List.{AllByRecursion}
use Rattle.std.proofs.lemmas.List.{length-append}
use Rattle.pg_wire.specs.Bytes.{ended, HasNoNul, AreBytes}
use Rattle.pg_wire.specs.Frame.{Frame}
use Rattle.pg_wire.specs.Backend as backend
use Rattle.pg_wire.specs.Backend.{BackendMessage, backend_frame, HasBackendFrame, IsChallenge, AreMechanisms}
use Rattle.pg_wire.specs.Decoding.{Says}
use Rattle.pg_wire.specs.Reading.{◌>>=◌, number32_at, ended_at, listed_at, whole, mechanisms_in}
use Rattle.pg_wire.specs.Requests.{IsName, is_method, AsksFor, IsAsked, IsRequest, AreNames}
use Rattle.pg_wire.specs.declared.message.authentication.Authentication.{Authentication}
use Rattle.pg_wire.specs.declared.message.authentication.Authentication.TheVariants as requests
use Rattle.pg_wire.proofs.ReaderLaws.{bind_some, IsExact, number32_exact, ended_exact, whole_takes, whole_again}
use Rattle.pg_wire.proofs.UntilLaws.{IsItem, listed_exact}
use Rattle.std.proofs.lemmas.Option.{same_Some}

abbrev Names : Type 0
Names = List (List ℕ)

begins_name : (name : List ℕ) → IsName name → get_or (ended name) 0 0 ≢ 0
begins_name [] h = absurd (h.1 refl)
begins_name (zero ∷ name) h = let clash = h.0 in absurd cc
begins_name (suc c ∷ name) h = λ z. absurd (omega (arith, z))

name_item : IsItem HasNoNul IsName ended
name_item = record {
  filled = λ n. let len = length-append n (0 ∷ []) in omega (arith, len);
  fits = λ n p z. (p, λ e. z (ap (λ (u : List ℕ). get_or (ended u) 0 0) e));
  again = λ n q. q.0;
  begins = begins_name;
}

abbrev names_bytes : Names → List ℕ
names_bytes names = flat_map ended names ++ 0 ∷ []

names_exact : IsExact (AllByRecursion IsName) names_bytes (listed_at ended_at)
names_exact = listed_exact HasNoNul IsName ended ended_at ended_exact name_item

unless_some : {A : Type 0} (b : Bool) (x y : A) → cond b None (Some x) ≡ Some y → (b ≡ false) × (x ≡ y)
unless_some true x y e = absurd cc
unless_some false x y e = (refl, cc)

are_mechanisms : (bytes : List ℕ) (names : Names) → eqb (length names) 0 ≡ false → AllByRecursion IsName names → bytes ≡ names_bytes names → AreMechanisms bytes
are_mechanisms bytes [] some h e = absurd cc
are_mechanisms bytes (first ∷ others) some h e = (first, others, h, e)

found : (bytes : List ℕ) (names : Names) → AreBytes bytes → mechanisms_in bytes ≡ Some names → AreMechanisms bytes × AllByRecursion IsName names × (bytes ≡ names_bytes names)
unfolding mechanisms_in
found bytes names h e =
    let a = bind_some (whole (listed_at ended_at) bytes) (λ (ns : Names). cond (eqb (length ns) 0) None (Some ns)) names e in
    let g = unless_some (eqb (length a.0) 0) a.0 names a.2 in
    let t = whole_takes (AllByRecursion IsName) names_bytes (listed_at ended_at) names_exact bytes a.0 h a.1 in
    (are_mechanisms bytes a.0 g.0 t.0 t.1, subst (AllByRecursion IsName) g.1 t.0, t.1 ∙ ap names_bytes g.1)

refused : (bytes : List ℕ) → mechanisms_in bytes ≡ None → AreMechanisms bytes → ⊥
unfolding mechanisms_in
refused bytes e m =
    let names : Names = m.0 ∷ m.1 in
    let read : whole (listed_at ended_at) bytes ≡ Some names = ap (whole (listed_at ended_at)) m.3 ∙ whole_again (AllByRecursion IsName) names_bytes (listed_at ended_at) names_exact names m.2 in
    let some : eqb (length names) 0 ≡ false = ne_eqb _ _ (λ z. absurd (omega (arith, z))) in
    let clash : Some names ≡ None = sym (ap (λ (o : Option Names). o >>= λ ns. cond (eqb (length ns) 0) None (Some ns)) read ∙ ap (λ (b : Bool). cond b None (Some names)) some) ∙ e in
    absurd cc

pub are_names : (bytes : List ℕ) (r : Option Names) → AreBytes bytes → mechanisms_in bytes ≡ r → AreNames bytes r
are_names bytes (Some names) h e = found bytes names h e
are_names bytes None h e = refused bytes e

-- ---- one reading

-- the bytes of names are those of no others
pub same_names : (x y : Names) → AllByRecursion IsName x → AllByRecursion IsName y → names_bytes x ≡ names_bytes y → x ≡ y
same_names x y h k e =
    same_Some x y (sym (whole_again (AllByRecursion IsName) names_bytes (listed_at ended_at) names_exact x h) ∙ ap (whole (listed_at ended_at)) e ∙ whole_again (AllByRecursion IsName) names_bytes (listed_at ended_at) names_exact y k)

other_method : (code number : ℕ) → code ≡ number → IsTrue (is_method number) → IsFalse (is_method code) → ⊥
other_method code number e t f = absurd cc

-- a code and its bytes are asked by one request
pub one_request : (r s : Authentication) (code : ℕ) (bytes : List ℕ) → AsksFor r code bytes → AsksFor s code bytes → r ≡ s
one_request requests.Ok requests.Ok code bytes p q = refl
one_request requests.Ok (requests.Other n) code bytes p q = absurd (other_method code 0 p.0 refl q.1)
one_request requests.Ok _ code bytes p q = absurd (omega (arith, p.0, q.0))
one_request requests.CleartextPassword requests.CleartextPassword code bytes p q = refl
one_request requests.CleartextPassword (requests.Other n) code bytes p q = absurd (other_method code 3 p.0 refl q.1)
one_request requests.CleartextPassword _ code bytes p q = absurd (omega (arith, p.0, q.0))
one_request (requests.Md5Password salt) (requests.Md5Password again) code bytes p q = ap requests.Md5Password (sym p.1 ∙ q.1)
one_request (requests.Md5Password salt) (requests.Other n) code bytes p q = absurd (other_method code 5 p.0 refl q.1)
one_request (requests.Md5Password salt) _ code bytes p q = absurd (omega (arith, p.0, q.0))
one_request (requests.Sasl names) (requests.Sasl again) code bytes p q = ap requests.Sasl (same_names names again p.1 q.1 (sym p.2 ∙ q.2))
one_request (requests.Sasl names) (requests.Other n) code bytes p q = absurd (other_method code 10 p.0 refl q.1)
one_request (requests.Sasl names) _ code bytes p q = absurd (omega (arith, p.0, q.0))
one_request (requests.SaslContinue text) (requests.SaslContinue again) code bytes p q = ap requests.SaslContinue (sym p.1 ∙ q.1)
one_request (requests.SaslContinue text) (requests.Other n) code bytes p q = absurd (other_method code 11 p.0 refl q.1)
one_request (requests.SaslContinue text) _ code bytes p q = absurd (omega (arith, p.0, q.0))
one_request (requests.SaslFinal text) (requests.SaslFinal again) code bytes p q = ap requests.SaslFinal (sym p.1 ∙ q.1)
one_request (requests.SaslFinal text) (requests.Other n) code bytes p q = absurd (other_method code 12 p.0 refl q.1)
one_request (requests.SaslFinal text) _ code bytes p q = absurd (omega (arith, p.0, q.0))
one_request (requests.Other n) (requests.Other k) code bytes p q = ap requests.Other (sym p.0 ∙ q.0)
one_request (requests.Other n) requests.Ok code bytes p q = absurd (other_method code 0 q.0 refl p.1)
one_request (requests.Other n) requests.CleartextPassword code bytes p q = absurd (other_method code 3 q.0 refl p.1)
one_request (requests.Other n) (requests.Md5Password salt) code bytes p q = absurd (other_method code 5 q.0 refl p.1)
one_request (requests.Other n) (requests.Sasl names) code bytes p q = absurd (other_method code 10 q.0 refl p.1)
one_request (requests.Other n) (requests.SaslContinue text) code bytes p q = absurd (other_method code 11 q.0 refl p.1)
one_request (requests.Other n) (requests.SaslFinal text) code bytes p q = absurd (other_method code 12 q.0 refl p.1)

-- ---- the message

abbrev Parts : Type 0
Parts = ℕ × List ℕ

pub asked : (body : List ℕ) (code : ℕ) (rest : List ℕ) (request : Authentication) → AreBytes body → number32_at body ≡ Some (code, rest) → IsRequest code rest (Some request) → (m : BackendMessage) × IsAsked request m × Says 82 body m
asked body code rest request bytes e p =
    let t = number32_exact.takes body (code, rest) bytes e in
    (backend.Authentication code rest, (code, rest, refl, p.1), ((t.0, p.0), ap (λ (b : List ℕ). record { tag = 82; body = b }) (sym t.1)))

same_request : (code : ℕ) (rest : List ℕ) (x : Parts) → x ≡ (code, rest) → IsRequest code rest None → IsChallenge x.0 x.1 → ⊥
same_request code rest x e none h = none (subst (λ (y : Parts). IsChallenge y.0 y.1) e h)

pub not_asked : (body : List ℕ) (code : ℕ) (rest : List ℕ) → number32_at body ≡ Some (code, rest) → IsRequest code rest None → (m : BackendMessage) → Says 82 body m → ⊥
not_asked body code rest e none (backend.Authentication c b) s =
    let again : number32_at body ≡ Some (c, b) = ap (λ (x : Frame). number32_at x.body) (sym s.1) ∙ number32_exact.again c b s.0.0 in
    same_request code rest (c, b) (same_Some (c, b) (code, rest) (sym again ∙ e)) none s.0.1
not_asked body code rest e none _ s = let tags = ap (λ (x : Frame). x.tag) s.1 in absurd (omega (arith, tags))

abbrev some_part : Parts → Option Parts
some_part x = Some x

pub no_code : (body : List ℕ) → number32_at body ≡ None → (m : BackendMessage) → Says 82 body m → ⊥
no_code body e (backend.Authentication c b) s =
    let again : number32_at body ≡ Some (c, b) = ap (λ (x : Frame). number32_at x.body) (sym s.1) ∙ number32_exact.again c b s.0.0 in
    let clash : some_part (c, b) ≡ None = sym again ∙ e in
    absurd cc
no_code body e _ s = let tags = ap (λ (x : Frame). x.tag) s.1 in absurd (omega (arith, tags))
