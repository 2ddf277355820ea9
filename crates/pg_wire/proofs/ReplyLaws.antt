-- Frames heard, as replies to frames sent: response by response, and for a single Query by what the acceptor takes.
use Rattle.pg_wire.specs.declared.fields.ErrorField.{ErrorField}
use Rattle.pg_wire.specs.declared.status.TransactionStatus.{TransactionStatus}
use Rattle.std.proofs.Common.{◌≡◌, ◌≢◌, ℕ, Bool, true, false, cond, nat_eq, List, [], ◌∷◌, ◌++◌, length, map, Option, Some, None, refl, sym, ap, ap₂, ◌∙◌, subst, append-nil, flat_map, option_and_then, arith}
use Rattle.std.specs.List.{AllByRecursion}
use Rattle.std.proofs.lemmas.Bool.{ne_eqb}
use Rattle.std.proofs.lemmas.List.{map-append}
use Rattle.pg_wire.specs.Bytes.{HasNoNul}
use Rattle.pg_wire.specs.Frame.{Frame}
use Rattle.pg_wire.specs.Frontend.{FrontendMessage, frontend_frame, HasFrontendFrame, Query}
use Rattle.pg_wire.specs.Backend.{FieldDescription, Values, BackendMessage, backend_frame, HasBackendFrame, ReadyForQuery, RowDescription, DataRow, ErrorResponse}
use Rattle.pg_wire.specs.Parts.{parts, cut_after, onto_first, is_ready}
use Rattle.pg_wire.specs.Server.{Server, fresh_server, ServerRun, IsQueryResponse, AreReplies, IsPrefixOf}
use Rattle.pg_wire.specs.Groups.{IsGroup, AnswerGroups, says_ready, IsUnready}
use Rattle.pg_wire.specs.Pieces.{PiecesOf}
use Rattle.pg_wire.specs.Acceptor.{Awaits, FirstSegment, FurtherSegment, RowsOf, AfterError, NothingMore, accepts}
use Rattle.pg_wire.proofs.Unique.{frontend_frame_unique, backend_frame_unique}
use Rattle.pg_wire.proofs.PartLaws.{flat_cut_after}
use Rattle.pg_wire.proofs.GroupLaws.{parts_answer, pieces_of_front}
use Rattle.pg_wire.proofs.RunLaws.{one_step, replies_fewer}
use Rattle.pg_wire.proofs.AcceptorLaws.{accepted_can_end, refused_begins_none, accepts-append}
use Rattle.pg_wire.proofs.Each.{each_join}

-- ---- frames are read in one way, list by list

same_messages : (xs ys : List FrontendMessage) → AllByRecursion HasFrontendFrame xs → AllByRecursion HasFrontendFrame ys → map frontend_frame xs ≡ map frontend_frame ys → xs ≡ ys
same_messages [] [] h k e = refl
same_messages [] (y ∷ ys) h k e = absurd cc
same_messages (x ∷ xs) [] h k e = absurd cc
same_messages (x ∷ xs) (y ∷ ys) h k e =
    let heads : frontend_frame x ≡ frontend_frame y = cc in
    let tails : map frontend_frame xs ≡ map frontend_frame ys = cc in
    ap₂ (λ (u : FrontendMessage) (us : List FrontendMessage). u ∷ us) (frontend_frame_unique x y h.0 k.0 heads) (same_messages xs ys h.1 k.1 tails)

heard_first : (xs ys : List BackendMessage) → AllByRecursion HasBackendFrame xs → AllByRecursion HasBackendFrame ys → IsPrefixOf (map backend_frame xs) (map backend_frame ys) → IsPrefixOf xs ys
heard_first [] ys h k p = (ys, refl)
heard_first (x ∷ xs) [] h k p = absurd (no p.1)
  where
    no : map backend_frame (x ∷ xs) ++ p.0 ≡ [] → ⊥
    no e = cc
heard_first (x ∷ xs) (y ∷ ys) h k p =
    let all = p.1 in
    let heads : backend_frame x ≡ backend_frame y = cc in
    let tails : map backend_frame xs ++ p.0 ≡ map backend_frame ys = cc in
    let further = heard_first xs ys h.1 k.1 (p.0, tails) in
    (further.0, ap₂ (λ (u : BackendMessage) (us : List BackendMessage). u ∷ us) (backend_frame_unique x y h.0 k.0 heads) further.1)

-- ---- response k answers group k

map_onto : {X Y : Type 0} (f : X → Y) (x : X) (xss : List (List X)) → onto_first (f x) (map (map f) xss) ≡ map (map f) (onto_first x xss)
map_onto f x [] = refl
map_onto f x (xs ∷ xss) = refl

map_one : {X Y : Type 0} (f : X → Y) (b : Bool) (x : X) (xss : List (List X)) → cond b ((f x ∷ []) ∷ map (map f) xss) (onto_first (f x) (map (map f) xss)) ≡ map (map f) (cond b ((x ∷ []) ∷ xss) (onto_first x xss))
map_one f true x xss = refl
map_one f false x xss = map_onto f x xss

-- the responses of some messages, frame by frame
parts_of_messages : (rs : List BackendMessage) → parts (map backend_frame rs) ≡ map (map backend_frame) (cut_after says_ready rs)
parts_of_messages [] = refl
parts_of_messages (r ∷ rs) =
    ap (λ (t : List (List Frame)). cond (says_ready r) ((backend_frame r ∷ []) ∷ t) (onto_first (backend_frame r) t)) (parts_of_messages rs)
    ∙ map_one backend_frame (says_ready r) r (cut_after says_ready rs)

pub frames_answer : (groups : List (List FrontendMessage)) (heard : List Frame) → AllByRecursion IsGroup groups → AllByRecursion HasFrontendFrame (flat_map (λ group. group) groups)
    → AreReplies (map frontend_frame (flat_map (λ group. group) groups)) heard
    → (responses : List (List BackendMessage)) × (new : Server) × AnswerGroups fresh_server groups responses new
    × AllByRecursion HasBackendFrame (flat_map (λ response. response) responses) × PiecesOf (parts heard) (map (map backend_frame) responses)
frames_answer groups heard gs fits r =
    let rs : List BackendMessage = flat_map (λ t. t) r.replies in
    let same = same_messages r.messages (flat_map (λ group. group) groups) r.messages_have_frames fits (sym r.sent_is) in
    let run = subst (λ (t : List FrontendMessage). ServerRun fresh_server t r.replies r.after) same r.run in
    let pieces = pieces_of_front is_ready heard r.heard_is.0 in
    let all : parts (heard ++ r.heard_is.0) ≡ map (map backend_frame) (cut_after says_ready rs) = ap parts r.heard_is.1 ∙ parts_of_messages rs in (
      cut_after says_ready rs,
      r.after,
      parts_answer fresh_server r.after groups r.replies gs (refl, refl) run,
      subst (AllByRecursion HasBackendFrame) (sym (flat_cut_after says_ready rs)) r.replies_have_frames,
      subst (PiecesOf (parts heard)) all pieces,
    )

-- ---- a single Query

-- one frame that may be a Query's is a Query's
one_query : (messages : List FrontendMessage) (body : List ℕ) → map frontend_frame messages ≡ record { tag = 81; body = body } ∷ [] → (sql : List ℕ) × (messages ≡ Query sql ∷ [])
one_query [] body e = absurd cc
one_query (x ∷ y ∷ zs) body e = absurd cc
one_query (Query sql ∷ []) body e = (sql, refl)
one_query (x ∷ []) body e =
    let frame : frontend_frame x ≡ record { tag = 81; body = body } = cc in
    is_query x (ap (λ (m : Frame). m.tag) frame)
  where
    is_query : (m : FrontendMessage) → (frontend_frame m).tag ≡ 81 → (sql : List ℕ) × (m ∷ [] ≡ Query sql ∷ [])
    is_query (Query sql) t = (sql, refl)
    is_query _ t = absurd (omega (arith, t))

-- what is heard begins a response
pub query_reply : (sql : List ℕ) (heard : List Frame) → AreReplies (frontend_frame (Query sql) ∷ []) heard
    → (rs : List BackendMessage) × IsQueryResponse rs × AllByRecursion HasBackendFrame rs × IsPrefixOf heard (map backend_frame rs)
query_reply sql heard r =
    let one = one_query r.messages _ (sym r.sent_is) in
    let run = subst (λ (t : List FrontendMessage). ServerRun fresh_server t r.replies r.after) one.1 r.run in
    let step = one_step fresh_server r.after (Query one.0) r.replies run in
    (flat_map (λ t. t) r.replies, step.0, r.replies_have_frames, r.heard_is)

pub refused_reply : (sql : List ℕ) (messages : List BackendMessage) → AllByRecursion HasBackendFrame messages → accepts FirstSegment messages ≡ None → AreReplies (frontend_frame (Query sql) ∷ []) (map backend_frame messages) → ⊥
refused_reply sql messages h e r =
    let q = query_reply sql (map backend_frame messages) r in
    let p = heard_first messages q.0 h q.2 q.3 in
    refused_begins_none messages p.0 e (subst IsQueryResponse (sym p.1) q.1)

pub accepted_reply : (sql : List ℕ) (messages : List BackendMessage) (then : Awaits) → HasNoNul sql → AllByRecursion HasBackendFrame messages → accepts FirstSegment messages ≡ Some then
    → AreReplies (frontend_frame (Query sql) ∷ []) (map backend_frame messages)
accepted_reply sql messages then n h e =
    let c = accepted_can_end messages then e in
    let whole = each_join HasBackendFrame messages c.0 h c.2 in
    record {
      messages = Query sql ∷ [];
      replies = (messages ++ c.0) ∷ [];
      after = fresh_server;
      messages_have_frames = (n, tt);
      sent_is = refl;
      run = (fresh_server, (c.1, refl), refl);
      replies_have_frames = subst (AllByRecursion HasBackendFrame) (sym (append-nil (messages ++ c.0))) whole;
      heard_is = (map backend_frame c.0, sym (map-append backend_frame messages c.0) ∙ ap (map backend_frame) (sym (append-nil (messages ++ c.0))));
    }

-- ---- what is no reply

pub bare_ready : (sql : List ℕ) (status : TransactionStatus) (more : List Frame) → AreReplies (frontend_frame (Query sql) ∷ []) (backend_frame (ReadyForQuery status) ∷ more) → ⊥
bare_ready sql status more r = refused_reply sql (ReadyForQuery status ∷ []) (tt, tt) refl (replies_fewer _ (backend_frame (ReadyForQuery status) ∷ []) _ (more, refl) r)

choose_row : (width : ℕ) (rest : List BackendMessage) (b : Bool) → accepts (RowsOf width) rest ≡ None → option_and_then (λ (t : Awaits). accepts t rest) (cond b (Some (RowsOf width)) None) ≡ None
choose_row width rest true e = e
choose_row width rest false e = refl

rows_refused : (width : ℕ) (rows : List Values) (values : Values) → length values ≢ width → accepts (RowsOf width) (map DataRow rows ++ DataRow values ∷ []) ≡ None
rows_refused width [] values n = let other : nat_eq (length values) width ≡ false = ne_eqb _ _ n in rw other refl
rows_refused width (row ∷ rows) values n = choose_row width (map DataRow rows ++ DataRow values ∷ []) (nat_eq (length row) width) (rows_refused width rows values n)

pub other_width : (sql : List ℕ) (fields : List FieldDescription) (rows : List Values) (values : Values) → AllByRecursion HasBackendFrame (RowDescription fields ∷ map DataRow rows ++ DataRow values ∷ []) → length values ≢ length fields
    → AreReplies (frontend_frame (Query sql) ∷ []) (map backend_frame (RowDescription fields ∷ map DataRow rows ++ DataRow values ∷ [])) → ⊥
other_width sql fields rows values h n = refused_reply sql (RowDescription fields ∷ map DataRow rows ++ DataRow values ∷ []) h (rows_refused (length fields) rows values n)

only_ready : (a : BackendMessage) → IsUnready a → accepts AfterError (a ∷ []) ≡ None
only_ready (ReadyForQuery status) u = absurd u
only_ready _ u = refl

error_refused : (s : Awaits) (details : List ErrorField) (a : BackendMessage) → IsUnready a → accepts s (ErrorResponse details ∷ a ∷ []) ≡ None
error_refused FirstSegment details a u = only_ready a u
error_refused FurtherSegment details a u = only_ready a u
error_refused (RowsOf width) details a u = only_ready a u
error_refused AfterError details a u = refl
error_refused NothingMore details a u = refl

behind_any : (o : Option Awaits) (details : List ErrorField) (a : BackendMessage) → IsUnready a → option_and_then (λ (t : Awaits). accepts t (ErrorResponse details ∷ a ∷ [])) o ≡ None
behind_any None details a u = refl
behind_any (Some s) details a u = error_refused s details a u

pub after_error : (sql : List ℕ) (front : List BackendMessage) (details : List ErrorField) (further : BackendMessage) → AllByRecursion HasBackendFrame (front ++ ErrorResponse details ∷ further ∷ []) → IsUnready further
    → AreReplies (frontend_frame (Query sql) ∷ []) (map backend_frame (front ++ ErrorResponse details ∷ further ∷ [])) → ⊥
after_error sql front details further h u =
    refused_reply sql (front ++ ErrorResponse details ∷ further ∷ []) h (accepts-append FirstSegment front (ErrorResponse details ∷ further ∷ []) ∙ behind_any (accepts FirstSegment front) details further u)
