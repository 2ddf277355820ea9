-- What is read of a body decides which message it says, or that it says none.
use Rattle.std.proofs.Common.{◌≡◌, ◌≢◌, ℕ, ◌<◌, ◌^◌, List, [], ◌∷◌, ◌++◌, length, Some, None, eqb, inl, inr, refl, sym, ap, ◌∙◌, arith, eqb-true}
use Rattle.pg_wire.specs.Bytes.{number32, ended, HasNoNul, AreBytes}
use Rattle.pg_wire.specs.Frame.{Frame}
use Rattle.pg_wire.specs.Backend.{BackendMessage, backend_frame, HasBackendFrame, IsText, status_byte, BackendKeyData, ParameterStatus, ReadyForQuery, CommandComplete, NotificationResponse, BackendCopyDone, EmptyQueryResponse, ParseComplete, BindComplete, CloseComplete, NoData, PortalSuspended}
use Rattle.pg_wire.specs.declared.status.TransactionStatus.{TransactionStatus}
use Rattle.pg_wire.specs.declared.status.TransactionStatus.TheVariants as statuses
use Rattle.pg_wire.specs.Decoding.{Says}
use Rattle.pg_wire.specs.Reading.{Reader, number32_at, ended_at, text_at, then_at, whole, status_in}
use Rattle.pg_wire.proofs.ReaderLaws.{IsExact, number32_exact, ended_exact, text_exact, then_exact, whole_takes, whole_none}
use Rattle.pg_wire.proofs.Tests.{chosen}
use Rattle.std.proofs.lemmas.Option.{cond_some, same_Some}

-- the messages of a tag are those of a kind of values
pub record IsKind {A : Type 0} (P : A → Type 0) (f : A → List ℕ) (tag : ℕ) (message : A → BackendMessage) : Type 0 where
  pub fits : (a : A) → P a → HasBackendFrame (message a)
  pub frame : (a : A) → P a → backend_frame (message a) ≡ record { tag = tag; body = f a }
  pub only : (m : BackendMessage) → HasBackendFrame m → (backend_frame m).tag ≡ tag → (a : A) × P a × ((backend_frame m).body ≡ f a)

pub says : {A : Type 0} (P : A → Type 0) (f : A → List ℕ) (r : Reader A) (tag : ℕ) (message : A → BackendMessage) → IsExact P f r → IsKind P f tag message → (body : List ℕ) (a : A) → AreBytes body → whole r body ≡ Some a → Says tag body (message a)
says P f r tag message exact kind body a bytes e =
    let t = whole_takes P f r exact body a bytes e in
    (kind.fits a t.0, kind.frame a t.0 ∙ ap (λ (b : List ℕ). record { tag = tag; body = b }) (sym t.1))

pub says_none : {A : Type 0} (P : A → Type 0) (f : A → List ℕ) (r : Reader A) (tag : ℕ) (message : A → BackendMessage) → IsExact P f r → IsKind P f tag message → (body : List ℕ) → whole r body ≡ None → (m : BackendMessage) → Says tag body m → ⊥
says_none P f r tag message exact kind body e m s =
    let o = kind.only m s.0 (ap (λ (x : Frame). x.tag) s.1) in
    whole_none P f r exact body e o.0 o.1 (sym (ap (λ (x : Frame). x.body) s.1) ∙ o.2)

-- ---- BackendKeyData

abbrev IsKey : ℕ × ℕ → Type 0
IsKey x = (x.0 < 2 ^ 32) × (x.1 < 2 ^ 32)

abbrev key_bytes : ℕ × ℕ → List ℕ
key_bytes x = number32 x.0 ++ number32 x.1

abbrev key_message : ℕ × ℕ → BackendMessage
key_message x = BackendKeyData x.0 x.1

key_only : (m : BackendMessage) → HasBackendFrame m → (backend_frame m).tag ≡ 75 → (x : ℕ × ℕ) × IsKey x × ((backend_frame m).body ≡ key_bytes x)
key_only (BackendKeyData p s) h e = ((p, s), h, refl)
key_only _ h e = absurd (omega (arith, e))

key_kind : IsKind IsKey key_bytes 75 key_message
key_kind = record { fits = λ x h. h; frame = λ x _. refl; only = key_only }

key_exact : IsExact IsKey key_bytes (then_at number32_at number32_at)
key_exact = then_exact (λ n. n < 2 ^ 32) number32 number32_at (λ n. n < 2 ^ 32) number32 number32_at number32_exact number32_exact

pub key_says : (body : List ℕ) (p s : ℕ) → AreBytes body → whole (then_at number32_at number32_at) body ≡ Some (p, s) → Says 75 body (BackendKeyData p s)
key_says body p s bytes e = says IsKey key_bytes _ 75 key_message key_exact key_kind body (p, s) bytes e

pub key_none : (body : List ℕ) → whole (then_at number32_at number32_at) body ≡ None → (m : BackendMessage) → Says 75 body m → ⊥
key_none body e = says_none IsKey key_bytes _ 75 key_message key_exact key_kind body e

-- ---- ParameterStatus

abbrev IsStatus : List ℕ × List ℕ → Type 0
IsStatus x = IsText x.0 × IsText x.1

abbrev status_bytes : List ℕ × List ℕ → List ℕ
status_bytes x = ended x.0 ++ ended x.1

abbrev status_message : List ℕ × List ℕ → BackendMessage
status_message x = ParameterStatus x.0 x.1

status_only : (m : BackendMessage) → HasBackendFrame m → (backend_frame m).tag ≡ 83 → (x : List ℕ × List ℕ) × IsStatus x × ((backend_frame m).body ≡ status_bytes x)
status_only (ParameterStatus n v) h e = ((n, v), h, refl)
status_only _ h e = absurd (omega (arith, e))

status_kind : IsKind IsStatus status_bytes 83 status_message
status_kind = record { fits = λ x h. h; frame = λ x _. refl; only = status_only }

status_exact : IsExact IsStatus status_bytes (then_at text_at text_at)
status_exact = then_exact IsText ended text_at IsText ended text_at text_exact text_exact

pub status_says : (body n v : List ℕ) → AreBytes body → whole (then_at text_at text_at) body ≡ Some (n, v) → Says 83 body (ParameterStatus n v)
status_says body n v bytes e = says IsStatus status_bytes _ 83 status_message status_exact status_kind body (n, v) bytes e

pub status_none : (body : List ℕ) → whole (then_at text_at text_at) body ≡ None → (m : BackendMessage) → Says 83 body m → ⊥
status_none body e = says_none IsStatus status_bytes _ 83 status_message status_exact status_kind body e

-- ---- NotificationResponse

abbrev Parts : Type 0
Parts = (ℕ × List ℕ) × List ℕ

abbrev IsTold : Parts → Type 0
IsTold x = ((x.0.0 < 2 ^ 32) × IsText x.0.1) × IsText x.1

abbrev told_bytes : Parts → List ℕ
told_bytes x = number32 x.0.0 ++ ended x.0.1 ++ ended x.1

abbrev told_message : Parts → BackendMessage
told_message x = NotificationResponse x.0.0 x.0.1 x.1

told_only : (m : BackendMessage) → HasBackendFrame m → (backend_frame m).tag ≡ 65 → (x : Parts) × IsTold x × ((backend_frame m).body ≡ told_bytes x)
told_only (NotificationResponse p c l) h e = (((p, c), l), ((h.0, h.1), h.2), refl)
told_only _ h e = absurd (omega (arith, e))

told_kind : IsKind IsTold told_bytes 65 told_message
told_kind = record { fits = λ x h. (h.0.0, h.0.1, h.1); frame = λ x _. refl; only = told_only }

abbrev told_at : Reader Parts
told_at = then_at (then_at number32_at text_at) text_at

told_exact : IsExact IsTold told_bytes told_at
told_exact = then_exact (λ (x : ℕ × List ℕ). (x.0 < 2 ^ 32) × IsText x.1) (λ x. number32 x.0 ++ ended x.1) (then_at number32_at text_at) IsText ended text_at
    (then_exact (λ n. n < 2 ^ 32) number32 number32_at IsText ended text_at number32_exact text_exact) text_exact

pub told_says : (body : List ℕ) (p : ℕ) (c l : List ℕ) → AreBytes body → whole (then_at (then_at number32_at text_at) text_at) body ≡ Some ((p, c), l) → Says 65 body (NotificationResponse p c l)
told_says body p c l bytes e = says IsTold told_bytes told_at 65 told_message told_exact told_kind body ((p, c), l) bytes e

pub told_none : (body : List ℕ) → whole (then_at (then_at number32_at text_at) text_at) body ≡ None → (m : BackendMessage) → Says 65 body m → ⊥
told_none body e = says_none IsTold told_bytes told_at 65 told_message told_exact told_kind body e

-- ---- CommandComplete

complete_only : (m : BackendMessage) → HasBackendFrame m → (backend_frame m).tag ≡ 67 → (x : List ℕ) × HasNoNul x × ((backend_frame m).body ≡ ended x)
complete_only (CommandComplete t) h e = (t, h, refl)
complete_only _ h e = absurd (omega (arith, e))

complete_kind : IsKind HasNoNul ended 67 CommandComplete
complete_kind = record { fits = λ x h. h; frame = λ x _. refl; only = complete_only }

pub complete_says : (body tag : List ℕ) → AreBytes body → whole ended_at body ≡ Some tag → Says 67 body (CommandComplete tag)
complete_says body tag bytes e = says HasNoNul ended ended_at 67 CommandComplete ended_exact complete_kind body tag bytes e

pub complete_none : (body : List ℕ) → whole ended_at body ≡ None → (m : BackendMessage) → Says 67 body m → ⊥
complete_none body e = says_none HasNoNul ended ended_at 67 CommandComplete ended_exact complete_kind body e

-- ---- ReadyForQuery

abbrev Status : Type 0
Status = TransactionStatus

nothing_in : {s : Status} → status_in [] ≡ Some s → ⊥
unfolding status_in
nothing_in e = absurd cc

much_in : {s : Status} (a b : ℕ) (body : List ℕ) → status_in (a ∷ b ∷ body) ≡ Some s → ⊥
unfolding status_in
much_in a b body e = absurd cc

letter_says : (letter : ℕ) (s : Status) → status_in (letter ∷ []) ≡ Some s → status_byte s ≡ letter
unfolding status_in
letter_says letter s e =
    elim (chosen (eqb letter 73) (Some statuses.Idle) _ (Some s) e) [
      | inl a ↦ ap status_byte (sym (same_Some statuses.Idle s a.1)) ∙ sym (eqb-true _ _ a.0)
      | inr a ↦ elim (chosen (eqb letter 84) (Some statuses.Transaction) _ (Some s) a.1) [
        | inl b ↦ ap status_byte (sym (same_Some statuses.Transaction s b.1)) ∙ sym (eqb-true _ _ b.0)
        | inr b ↦ let c = cond_some (eqb letter 69) statuses.Error s b.1 in ap status_byte (sym c.1) ∙ sym (eqb-true _ _ c.0)
      ]
    ]

pub ready_says : (body : List ℕ) (s : Status) → status_in body ≡ Some s → Says 90 body (ReadyForQuery s)
ready_says [] s e = absurd (nothing_in e)
ready_says (letter ∷ []) s e = (tt, ap (λ (b : ℕ). record { tag = 90; body = b ∷ [] }) (letter_says letter s e))
ready_says (a ∷ b ∷ body) s e = absurd (much_in a b body e)

status_again : (s : Status) → status_in (status_byte s ∷ []) ≡ Some s
unfolding status_in
status_again statuses.Idle = refl
status_again statuses.Transaction = refl
status_again statuses.Error = refl

pub ready_none : (body : List ℕ) → status_in body ≡ None → (m : BackendMessage) → Says 90 body m → ⊥
ready_none body e (ReadyForQuery s) h =
    let same : status_in (status_byte s ∷ []) ≡ status_in body = ap (λ (x : Frame). status_in x.body) h.1 in
    let clash : Some s ≡ None = sym (status_again s) ∙ same ∙ e in
    absurd cc
ready_none body e _ h = let tags = ap (λ (x : Frame). x.tag) h.1 in absurd (omega (arith, tags))

-- ---- messages without a body

abbrev IsFilled : List ℕ → Type 0
IsFilled body = length body ≢ 0

pub empty_query_none : (body : List ℕ) → IsFilled body → (m : BackendMessage) → Says 73 body m → ⊥
empty_query_none body h EmptyQueryResponse s = h (sym (ap (λ (x : Frame). length x.body) s.1))
empty_query_none body h _ s = let tags = ap (λ (x : Frame). x.tag) s.1 in absurd (omega (arith, tags))

pub parsed_none : (body : List ℕ) → IsFilled body → (m : BackendMessage) → Says 49 body m → ⊥
parsed_none body h ParseComplete s = h (sym (ap (λ (x : Frame). length x.body) s.1))
parsed_none body h _ s = let tags = ap (λ (x : Frame). x.tag) s.1 in absurd (omega (arith, tags))

pub bound_none : (body : List ℕ) → IsFilled body → (m : BackendMessage) → Says 50 body m → ⊥
bound_none body h BindComplete s = h (sym (ap (λ (x : Frame). length x.body) s.1))
bound_none body h _ s = let tags = ap (λ (x : Frame). x.tag) s.1 in absurd (omega (arith, tags))

pub closed_none : (body : List ℕ) → IsFilled body → (m : BackendMessage) → Says 51 body m → ⊥
closed_none body h CloseComplete s = h (sym (ap (λ (x : Frame). length x.body) s.1))
closed_none body h _ s = let tags = ap (λ (x : Frame). x.tag) s.1 in absurd (omega (arith, tags))

pub no_data_none : (body : List ℕ) → IsFilled body → (m : BackendMessage) → Says 110 body m → ⊥
no_data_none body h NoData s = h (sym (ap (λ (x : Frame). length x.body) s.1))
no_data_none body h _ s = let tags = ap (λ (x : Frame). x.tag) s.1 in absurd (omega (arith, tags))

pub suspended_none : (body : List ℕ) → IsFilled body → (m : BackendMessage) → Says 115 body m → ⊥
suspended_none body h PortalSuspended s = h (sym (ap (λ (x : Frame). length x.body) s.1))
suspended_none body h _ s = let tags = ap (λ (x : Frame). x.tag) s.1 in absurd (omega (arith, tags))

pub copied_none : (body : List ℕ) → IsFilled body → (m : BackendMessage) → Says 99 body m → ⊥
copied_none body h BackendCopyDone s = h (sym (ap (λ (x : Frame). length x.body) s.1))
copied_none body h _ s = let tags = ap (λ (x : Frame). x.tag) s.1 in absurd (omega (arith, tags))
