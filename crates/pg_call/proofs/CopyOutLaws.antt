-- What may come in the response to a copy to the client: a message that may not come there begins no response of any server, and each other reply that is lawful
-- there begins one.
use Rattle.std.proofs.Common.{◌≡◌, ℕ, true, List, [], ◌∷◌, ◌++◌, map, Option, Some, None, refl, sym, ap, ◌∙◌, subst, append_assoc, append-nil, flat_map, inl, inr, option_and_then}
use Rattle.std.specs.List.{AllByRecursion}
use Rattle.std.proofs.lemmas.Option.{same_Some}
use Rattle.pg_wire.specs.declared.status.TransactionStatus.TheVariants as statuses
use Rattle.pg_wire.specs.Frame.{Frame}
use Rattle.pg_wire.specs.Frontend.{Query}
use Rattle.pg_wire.specs.Backend.{BackendMessage, backend_frame, HasBackendFrame, ReadyForQuery, RowDescription, CommandComplete, ErrorResponse, EmptyQueryResponse, CopyInResponse, CopyOutResponse, BackendCopyData, BackendCopyDone}
use Rattle.pg_wire.specs.Server.{fresh_server}
use Rattle.pg_wire.specs.Acceptor.{FirstSegment, FurtherSegment}
use Rattle.pg_wire.specs.Copying.{CopyServer, IsCopyOut, NotCopying, QueryCopies, StepsOutsideCopy}
use Rattle.pg_wire.specs.Refusals.{BeginsCopyResponse}
use Rattle.pg_wire.proofs.CopyAcceptorLaws.{Expects, Plain, OutData, OutEnd, ClientData, follows, takes, answer_taken}
use Rattle.pg_wire.proofs.RefusalLaws.{split, outside}
use Rattle.pg_call.proofs.CopyBegun.{Pieces, begins_by, have_more}
use Rattle.pg_call.specs.declared.judging.Part.{Part}
use Rattle.pg_call.specs.declared.judging.Part.TheVariants.{CopyFirst, CopyData, CopyEnd, Copied}
use Rattle.pg_call.specs.Replies.{goes_on, part_after, begins_segment, may_stray, MayNotCome}

-- a part of a copy, and what a server that may copy goes on with there
abbrev pub IsCopying : Part → Type 0
IsCopying CopyFirst = Unit {0}
IsCopying CopyData = Unit {0}
IsCopying CopyEnd = Unit {0}
IsCopying Copied = Unit {0}
IsCopying _ = ⊥

abbrev expects : Part → Expects
expects CopyFirst = Plain FirstSegment
expects CopyData = OutData
expects CopyEnd = OutEnd
expects Copied = Plain FurtherSegment
expects _ = ClientData

-- ---- the reply goes on as a server may

abbrev GoesTo : Option Expects → Part → Type 0
GoesTo o next = (o ≡ Some (expects next)) × IsCopying next

went_to : (o : Option Expects) (p next : Part) → Some p ≡ Some next → GoesTo o p → GoesTo o next
went_to o p next e g = subst (GoesTo o) (same_Some p next e) g

copied_on : (part next : Part) (m : BackendMessage) → IsCopying part → goes_on part m ≡ Some next → GoesTo (follows (expects part) m) next
copied_on CopyFirst next (CopyOutResponse format columns) i e = went_to _ CopyData next e (refl, tt)
copied_on CopyFirst next _ i e = absurd cc
copied_on CopyData next (BackendCopyData bytes) i e = went_to _ CopyData next e (refl, tt)
copied_on CopyData next BackendCopyDone i e = went_to _ CopyEnd next e (refl, tt)
copied_on CopyData next _ i e = absurd cc
copied_on CopyEnd next (CommandComplete tag) i e = went_to _ Copied next e (refl, tt)
copied_on CopyEnd next _ i e = absurd cc
copied_on Copied next m i e = absurd cc
copied_on _ next m i e = absurd i

copied_after : (part q : Part) (ms : List BackendMessage) → IsCopying part → part_after part ms ≡ Some q → GoesTo (takes (expects part) ms) q
copied_after part q [] i e = went_to _ part q e (refl, i)
copied_after part q (m ∷ ms) i e = by (goes_on part m) refl (λ n j k. copied_after n q ms j k) e
  where
    by : (o : Option Part) → goes_on part m ≡ o → ((n : Part) → IsCopying n → part_after n ms ≡ Some q → GoesTo (takes (expects n) ms) q) → option_and_then (λ n. part_after n ms) o ≡ Some q → GoesTo (takes (expects part) (m ∷ ms)) q
    by None g f k = absurd cc
    by (Some n) g f k =
        let on = copied_on part n m i g in
        let rest = f n on.1 k in
        (ap (λ (x : Option Expects). option_and_then (λ y. takes y ms) x) on.0 ∙ rest.0, rest.1)

-- so nothing else is awaited behind its beginning
pub copied_parts : (own : List BackendMessage) (q : Part) → part_after CopyFirst own ≡ Some q → IsCopying q
copied_parts own q e = (copied_after CopyFirst q own tt e).1

-- ---- what may not come is refused

copied_out : (part : Part) (m : BackendMessage) → IsCopying part → MayNotCome part m → follows (expects part) m ≡ None
copied_out CopyFirst (RowDescription fields) i h = absurd cc
copied_out CopyFirst (CommandComplete tag) i h = absurd cc
copied_out CopyFirst EmptyQueryResponse i h = absurd cc
copied_out CopyFirst (CopyInResponse format columns) i h = absurd cc
copied_out CopyFirst (CopyOutResponse format columns) i h = absurd cc
copied_out CopyFirst (ErrorResponse details) i h = absurd h
copied_out CopyFirst _ i h = refl
copied_out CopyData (BackendCopyData bytes) i h = absurd cc
copied_out CopyData BackendCopyDone i h = absurd cc
copied_out CopyData (ErrorResponse details) i h = absurd h
copied_out CopyData _ i h = refl
copied_out CopyEnd (CommandComplete tag) i h = absurd cc
copied_out CopyEnd (ErrorResponse details) i h = absurd h
copied_out CopyEnd _ i h = refl
copied_out Copied (RowDescription fields) i h = absurd cc
copied_out Copied (CommandComplete tag) i h = absurd cc
copied_out Copied EmptyQueryResponse i h = absurd cc
copied_out Copied (CopyInResponse format columns) i h = absurd cc
copied_out Copied (CopyOutResponse format columns) i h = absurd cc
copied_out Copied (ErrorResponse details) i h = absurd h
copied_out Copied (ReadyForQuery status) i h = absurd cc
copied_out Copied _ i h = refl
copied_out _ m i h = absurd i

-- behind what is taken nothing is that doesn't follow
none_behind : (x y : Expects) (own rest : List BackendMessage) (m : BackendMessage) → takes x own ≡ Some y → follows y m ≡ None → takes x (own ++ m ∷ rest) ≡ None
none_behind x y [] rest m e n = ap (λ (z : Expects). option_and_then (λ w. takes w rest) (follows z m)) (same_Some x y e) ∙ ap (λ (o : Option Expects). option_and_then (λ w. takes w rest) o) n
none_behind x y (a ∷ own) rest m e n = by (follows x a) (λ z k. none_behind z y own rest m k n) e
  where
    by : (o : Option Expects) → ((z : Expects) → takes z own ≡ Some y → takes z (own ++ m ∷ rest) ≡ None) → option_and_then (λ z. takes z own) o ≡ Some y → option_and_then (λ z. takes z (own ++ m ∷ rest)) o ≡ None
    by None f k = absurd cc
    by (Some z) f k = f z k

pub copy_refused : (sql : List ℕ) (own : List BackendMessage) (part : Part) (f : Frame) → AllByRecursion HasBackendFrame own → part_after CopyFirst own ≡ Some part → ((m : BackendMessage) → HasBackendFrame m → backend_frame m ≡ f → MayNotCome part m)
    → BeginsCopyResponse (Query sql ∷ []) (map backend_frame own ++ f ∷ []) → ⊥
copy_refused sql own part f have e out b =
    let rs : List BackendMessage = flat_map (λ t. t) b.replies in
    let t = split own f b.begins.0 rs have b.replies_have_frames b.begins.1 in
    let step = outside b.before b.after (Query sql) b.replies b.between.0 b.between.1 b.run in
    let taken = answer_taken _ (own ++ t.message ∷ t.rest) b.after (subst (λ (w : List BackendMessage). StepsOutsideCopy b.before.server (Query sql) w b.after) t.whole step) in
    let came = copied_after CopyFirst part own tt e in
    let none = none_behind (Plain FirstSegment) (expects part) own t.rest t.message came.0 (copied_out part t.message came.1 (out t.message t.has_frame t.frame_is)) in
    let whole = taken.1 in
    absurd cc

-- ---- another reply that is lawful

-- what has come by the end of the copy
abbrev ToCopied : Part → List BackendMessage → Type 0
ToCopied CopyFirst ms = IsCopyOut ms
ToCopied CopyData ms = (pieces : List (List ℕ)) × (tag : List ℕ) × (ms ≡ map BackendCopyData pieces ++ BackendCopyDone ∷ CommandComplete tag ∷ [])
ToCopied CopyEnd ms = (tag : List ℕ) × (ms ≡ CommandComplete tag ∷ [])
ToCopied Copied ms = ms ≡ []
ToCopied _ ms = ⊥

to_copied : (part : Part) (ms : List BackendMessage) → IsCopying part → part_after part ms ≡ Some Copied → ToCopied part ms
to_copied Copied [] i e = refl
to_copied CopyFirst [] i e = absurd cc
to_copied CopyData [] i e = absurd cc
to_copied CopyEnd [] i e = absurd cc
to_copied CopyFirst (CopyOutResponse format columns ∷ ms) i e =
    let r = to_copied CopyData ms tt e in
    (format, columns, r.0, r.1, ap (λ (x : List BackendMessage). CopyOutResponse format columns ∷ x) r.2)
to_copied CopyFirst (_ ∷ ms) i e = absurd cc
to_copied CopyData (BackendCopyData bytes ∷ ms) i e =
    let r = to_copied CopyData ms tt e in
    (bytes ∷ r.0, r.1, ap (λ (x : List BackendMessage). BackendCopyData bytes ∷ x) r.2)
to_copied CopyData (BackendCopyDone ∷ ms) i e =
    let r = to_copied CopyEnd ms tt e in
    ([], r.0, ap (λ (x : List BackendMessage). BackendCopyDone ∷ x) r.1)
to_copied CopyData (_ ∷ ms) i e = absurd cc
to_copied CopyEnd (CommandComplete tag ∷ ms) i e = (tag, ap (λ (x : List BackendMessage). CommandComplete tag ∷ x) (to_copied Copied ms tt e))
to_copied CopyEnd (_ ∷ ms) i e = absurd cc
to_copied Copied (m ∷ ms) i e = absurd cc
to_copied _ ms i e = absurd i

-- it is the first part at its beginning alone
abbrev IsBegun : Part → Type 0
IsBegun CopyData = Unit {0}
IsBegun CopyEnd = Unit {0}
IsBegun Copied = Unit {0}
IsBegun _ = ⊥

never_first : (part : Part) (ms : List BackendMessage) → IsBegun part → part_after part ms ≡ Some CopyFirst → ⊥
never_first CopyData [] i e = cc
never_first CopyEnd [] i e = cc
never_first Copied [] i e = cc
never_first CopyData (BackendCopyData bytes ∷ ms) i e = never_first CopyData ms tt e
never_first CopyData (BackendCopyDone ∷ ms) i e = never_first CopyEnd ms tt e
never_first CopyData (_ ∷ ms) i e = cc
never_first CopyEnd (CommandComplete tag ∷ ms) i e = never_first Copied ms tt e
never_first CopyEnd (_ ∷ ms) i e = cc
never_first Copied (m ∷ ms) i e = cc
never_first _ ms i e = i

first_alone : (ms : List BackendMessage) → part_after CopyFirst ms ≡ Some CopyFirst → ms ≡ []
first_alone [] e = refl
first_alone (CopyOutResponse format columns ∷ ms) e = absurd (never_first CopyData ms tt e)
first_alone (_ ∷ ms) e = absurd cc

-- so whole segments have come
came_whole : (part : Part) (own : List BackendMessage) (m : BackendMessage) → IsCopying part → part_after CopyFirst own ≡ Some part → may_stray part m ≡ true → Pieces own × (begins_segment m ≡ true)
came_whole CopyFirst own m i e may = (([], tt, first_alone own e), first_begins m may)
  where
    first_begins : (m : BackendMessage) → may_stray CopyFirst m ≡ true → begins_segment m ≡ true
    first_begins (CopyOutResponse format columns) k = refl
    first_begins (RowDescription fields) k = refl
    first_begins (CommandComplete tag) k = refl
    first_begins EmptyQueryResponse k = refl
    first_begins (CopyInResponse format columns) k = refl
    first_begins _ k = absurd cc
came_whole Copied own m i e may = ((own ∷ [], (inr (to_copied CopyFirst own tt e), tt), sym (append-nil own)), may)
came_whole CopyData own m i e may = absurd cc
came_whole CopyEnd own m i e may = absurd cc
came_whole _ own m i e may = absurd i

-- a server behind a Query that doesn't copy from the client
abbrev done : CopyServer
done = record { server = record fresh_server { unnamed = None; portal = None }; mode = NotCopying }

segment_begins : (sql : List ℕ) (own : List BackendMessage) (m : BackendMessage) → AllByRecursion HasBackendFrame own → HasBackendFrame m → begins_segment m ≡ true → Pieces own → BeginsCopyResponse (Query sql ∷ []) (map backend_frame own ++ backend_frame m ∷ [])
segment_begins sql own (RowDescription fields) have h may p =
    let m = RowDescription fields in
    let tail = CommandComplete [] ∷ ReadyForQuery statuses.Idle ∷ [] in
    let last = m ∷ CommandComplete [] ∷ [] in
    begins_by sql own tail m (own ++ m ∷ tail) refl (have_more own (m ∷ tail) have (h, (refl, (tt, tt)))) done
    (inl (record { before = p.0; last = last; status = statuses.Idle; whole = p.1; ends = inl (inl (inr (inl (fields, [], [], tt, refl)))); are = ap (λ (x : List BackendMessage). x ++ m ∷ tail) p.2 ∙ sym (append_assoc (flat_map (λ rs. rs) p.0) last (ReadyForQuery statuses.Idle ∷ [])) }, refl))
segment_begins sql own (CommandComplete tag) have h may p =
    let m = CommandComplete tag in
    let tail = ReadyForQuery statuses.Idle ∷ [] in
    begins_by sql own tail m (own ++ m ∷ tail) refl (have_more own (m ∷ tail) have (h, (tt, tt))) done
    (inl (record { before = p.0; last = m ∷ []; status = statuses.Idle; whole = p.1; ends = inl (inl (inl (tag, refl))); are = ap (λ (x : List BackendMessage). x ++ m ∷ tail) p.2 ∙ sym (append_assoc (flat_map (λ rs. rs) p.0) (m ∷ []) tail) }, refl))
segment_begins sql own EmptyQueryResponse have h may p =
    let m = EmptyQueryResponse in
    let tail = ReadyForQuery statuses.Idle ∷ [] in
    begins_by sql own tail m (own ++ m ∷ tail) refl (have_more own (m ∷ tail) have (h, (tt, tt))) done
    (inl (record { before = p.0; last = m ∷ []; status = statuses.Idle; whole = p.1; ends = inl (inl (inr (inr refl))); are = ap (λ (x : List BackendMessage). x ++ m ∷ tail) p.2 ∙ sym (append_assoc (flat_map (λ rs. rs) p.0) (m ∷ []) tail) }, refl))
segment_begins sql own (CopyOutResponse format columns) have h may p =
    let m = CopyOutResponse format columns in
    let tail = BackendCopyDone ∷ CommandComplete [] ∷ ReadyForQuery statuses.Idle ∷ [] in
    let last = m ∷ BackendCopyDone ∷ CommandComplete [] ∷ [] in
    begins_by sql own tail m (own ++ m ∷ tail) refl (have_more own (m ∷ tail) have (h, (tt, (refl, (tt, tt))))) done
    (inl (record { before = p.0; last = last; status = statuses.Idle; whole = p.1; ends = inl (inr (format, columns, [], [], refl)); are = ap (λ (x : List BackendMessage). x ++ m ∷ tail) p.2 ∙ sym (append_assoc (flat_map (λ rs. rs) p.0) last (ReadyForQuery statuses.Idle ∷ [])) }, refl))
segment_begins sql own (CopyInResponse format columns) have h may p =
    let m = CopyInResponse format columns in
    begins_by sql own [] m (own ++ m ∷ []) refl (have_more own (m ∷ []) have (h, tt)) (record { server = record fresh_server { unnamed = None; portal = None }; mode = QueryCopies })
    (inr ((p.0, m, p.1, (format, columns, refl), ap (λ (x : List BackendMessage). x ++ m ∷ []) p.2), refl))
segment_begins sql own _ have h may p = absurd cc

pub copy_strays : (sql : List ℕ) (own : List BackendMessage) (part : Part) (m : BackendMessage) → AllByRecursion HasBackendFrame own → HasBackendFrame m → part_after CopyFirst own ≡ Some part → may_stray part m ≡ true
    → BeginsCopyResponse (Query sql ∷ []) (map backend_frame own ++ backend_frame m ∷ [])
copy_strays sql own part m have h e may =
    let w = came_whole part own m (copied_after CopyFirst part own tt e).1 e may in
    segment_begins sql own m have h w.1 w.0
