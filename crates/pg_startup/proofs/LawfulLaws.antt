-- A lawful start-up fails for want of memory alone, and doesn't wait for what was said.
use Rattle.std.proofs.Common.{◌≡◌, ℕ, List, [], ◌∷◌, ◌++◌, Bool, true, false, Option, Some, None, refl, sym, ap, subst, ◌∙◌, arith, append_assoc, append-nil, Err, inl, inr, ◌⊎◌}
use Rattle.std.specs.List.{AllByRecursion}
use Rattle.std.specs.Io.KnownBytes.{Appends}
use Rattle.futures.specs.declared.task.Poll.TheVariants.{Ready, Pending}
use Rattle.pg_wire.specs.declared.error.Error.{Error}
use Rattle.pg_wire.specs.declared.error.Error.TheVariants as errors
use Rattle.pg_wire.specs.declared.error.IoCause.TheVariants as io
use Rattle.pg_wire.specs.declared.error.TlsCause.TheVariants as tls
use Rattle.pg_wire.specs.declared.error.ProtocolFault.TheVariants as protocol
use Rattle.pg_wire.specs.declared.error.ServerFault.TheVariants as faults
use Rattle.pg_wire.specs.Frame.{Frame, bytes_of, text_of, backend_tags, IsWhole}
use Rattle.pg_wire.specs.Parts.{heard, is_asynchronous}
use Rattle.pg_wire.proofs.CutLaws.{frame_unique}
use Rattle.pg_wire.proofs.PartLaws.{heard-append}
use Rattle.pg_stream.specs.Links.{LinkSeen, Rose}
use Rattle.pg_stream.specs.Streams.{fresh_stream, HasNone, HeardCause, IsMalformedFront}
use Rattle.pg_stream.specs.Asynchronous.{IsSaid}
use Rattle.pg_stream.proofs.Known.{Appends-then, Appends-from_keeps}
use Rattle.pg_stream.specs.declared.link.TlsWish.{TlsWish}
use Rattle.pg_auth.specs.declared.tls.TlsPlan.{TlsPlan}
use Rattle.pg_auth.specs.declared.tls.TlsPlan.TheVariants.{Plain, Ask}
use Rattle.pg_startup.specs.declared.stage.Session.{Session}
use Rattle.pg_startup.specs.declared.stage.Stage.{Stage}
use Rattle.pg_startup.specs.declared.stage.Stage.TheVariants as stages
use Rattle.pg_startup.specs.declared.starting.Phase.{Phase}
use Rattle.pg_startup.specs.declared.starting.Phase.TheVariants as phases
use Rattle.pg_startup.specs.Exchange.{ClientSeen, Proof, Leads}
use Rattle.pg_startup.specs.declared.asking.Asked.{Asked}
use Rattle.pg_startup.specs.declared.asking.Asked.TheVariants as asks
use Rattle.pg_startup.specs.Asking.{Answered, AskingFails, HasAsked}
use Rattle.pg_startup.specs.Handshake.{IsQuestion}
use Rattle.pg_startup.specs.Greeting.{GreetingSeen, session_at, IsFrontRefused}
use Rattle.pg_startup.specs.Establishing.{EstablishSeen, HasLink, IsStarting, IsUnderWay, IsGreeting, IsAwaited, IsServersTurn, IsUnbegun, StartFails, StartWaits, PollsStart}
use Rattle.pg_startup.specs.Lawful.{HearsAll, IsUpgrading, WaitsForLink, CanBeSaid, Gave, HearsLawful, Stays, Works}
use Rattle.pg_startup.proofs.EstablishLaws.{questioned}
use Rattle.pg_startup.proofs.FramingLaws.{AreTaken, IsNext, taken_or_next, no_header}
use Rattle.pg_startup.proofs.ExchangeLaws.{leads_on, leads_no_more}
use Rattle.pg_startup.proofs.SignatureLaws.{KnowsSignature, leads_knows}
use Rattle.pg_startup.proofs.RefusedLaws.{IsMemory, Takes, not_refused}
use Rattle.pg_wire.proofs.Each.{each_first, each_last}

-- ---- what a link gave

not_rose : (before now : ℕ) → Stays before now → Rose before now → ⊥
not_rose before now s r = omega (arith, s.0, s.1, r)

same_behind : (x y z : List ℕ) → x ++ y ≡ x ++ z → y ≡ z
same_behind [] y z e = e
same_behind (n ∷ x) y z e = let rest : x ++ y ≡ x ++ z = cc in same_behind x y z rest

same_given : (a b : Option (List ℕ)) (before given bytes : List ℕ) → a ≡ Some before → b ≡ Some (before ++ given) → Appends a b bytes → given ≡ bytes
same_given a b before given bytes p q h = same_behind before given bytes (rw (p, q) at h)

pub gave_that : (first now : LinkSeen) (given bytes : List ℕ) → Gave first now given → Appends first.given now.given bytes → given ≡ bytes
gave_that first now given bytes g h = same_given first.given now.given g.0 given bytes g.1 g.2 h

-- ---- the question for TLS

-- the byte that came is one that the server may say
may_answer : (required : Bool) (wish : TlsWish) (asked answered text rest further : List ℕ) (byte : ℕ) → IsQuestion (Ask required wish) asked answered → byte ∷ rest ≡ (answered ++ text) ++ further → (byte ≡ 83) ⊎ ((required ≡ false) × (byte ≡ 78))
may_answer required wish asked answered text rest further byte (said, inl s) e = inl (first 83 (e ∙ ap (λ (a : List ℕ). (a ++ text) ++ further) s))
  where
    first : (b : ℕ) → byte ∷ rest ≡ b ∷ (text ++ further) → byte ≡ b
    first b e = cc
may_answer required wish asked answered text rest further byte (said, inr (plain, s)) e = inr (plain, first 78 (e ∙ ap (λ (a : List ℕ). (a ++ text) ++ further) s))
  where
    first : (b : ℕ) → byte ∷ rest ≡ b ∷ (text ++ further) → byte ≡ b
    first b e = cc

answered_well : (required : Bool) (wish : TlsWish) (e : EstablishSeen) (first now : LinkSeen) (byte : ℕ) → e.plan ≡ Ask required wish → HearsLawful e first now → Answered first now byte → (byte ≡ 83) ⊎ ((required ≡ false) × (byte ≡ 78))
answered_well required wish e first now byte plan h a =
    let x = h.lawful.handshake in
    let question = subst (λ (p : TlsPlan). IsQuestion p x.asked x.answered) plan x.question in
    let came : byte ∷ h.front.0 ≡ h.read ++ h.further = ap (λ (g : List ℕ). g ++ h.front.0) (sym (gave_that first now h.given (byte ∷ []) h.gave a.1)) ∙ h.front.1 in
    may_answer required wish x.asked x.answered (text_of x.frames) h.front.0 h.further byte question (came ∙ ap (λ (r : List ℕ). r ++ h.further) x.read_is)

true_false : (b : Bool) → b ≡ true → b ≡ false → ⊥
true_false b t f = cc

not_refused_tls : (required : Bool) → required ≡ true → (◌≡◌ {A = ℕ} 78 83) ⊎ ((required ≡ false) × (◌≡◌ {A = ℕ} 78 78)) → ⊥
not_refused_tls required t (inl e) = omega (arith, e)
not_refused_tls required t (inr (f, e)) = true_false required t f

not_another : (required : Bool) (byte : ℕ) → (byte ≡ 83 → ⊥) → (byte ≡ 78 → ⊥) → (byte ≡ 83) ⊎ ((required ≡ false) × (byte ≡ 78)) → ⊥
not_another required byte s n (inl e) = s e
not_another required byte s n (inr (f, e)) = n e

asking_fails : (required : Bool) (wish : TlsWish) (e : EstablishSeen) (first before now : LinkSeen) (error : Error) → e.plan ≡ Ask required wish → Works before now → HearsLawful e first now → AskingFails required first before now error → IsMemory error
asking_fails required wish e first before now (errors.Io io.Fault) plan w h f = absurd (not_rose before.faults now.faults w.faults f)
asking_fails required wish e first before now (errors.Io io.End) plan w h f = absurd (not_rose before.ends now.ends w.ends f.0)
asking_fails required wish e first before now (errors.Tls tls.UpgradeFailed) plan w h f = absurd (not_rose before.upgrade_faults now.upgrade_faults w.upgrade_faults f)
asking_fails required wish e first before now (errors.Tls tls.ServerRefused) plan w h f = absurd (not_refused_tls required f.0 (answered_well required wish e first now 78 plan h f.1))
asking_fails required wish e first before now (errors.Protocol (protocol.Server (faults.SslAnswer byte))) plan w h f = absurd (not_another required byte f.0 f.1 (answered_well required wish e first now byte plan h f.2))
asking_fails required wish e first before now _ plan w h f = absurd f

one_byte : (required : Bool) (answered : List ℕ) → (answered ≡ 83 ∷ []) ⊎ ((required ≡ false) × (answered ≡ 78 ∷ [])) → (byte : ℕ) × (answered ≡ byte ∷ [])
one_byte required answered (inl e) = (83, e)
one_byte required answered (inr (f, e)) = (78, e)

behind_byte : (b d : ℕ) (x y u v : List ℕ) → x ≡ b ∷ [] → y ≡ d ∷ [] → x ++ u ≡ y ++ v → u ≡ v
behind_byte b d x y u v p q e = tails (rw (p, q) at e)
  where
    tails : b ∷ u ≡ d ∷ v → u ≡ v
    tails e = cc

-- what stands behind the answer is the same
behind_answer : (plan : TlsPlan) (s t x y u v : List ℕ) → IsQuestion plan s x → IsQuestion plan t y → x ++ u ≡ y ++ v → u ≡ v
behind_answer Plain s t x y u v p q e = ap (λ (z : List ℕ). z ++ u) (sym p.1) ∙ e ∙ ap (λ (z : List ℕ). z ++ v) q.1
behind_answer (Ask required wish) s t x y u v p q e =
    let a = one_byte required x p.1 in
    let b = one_byte required y q.1 in
    behind_byte a.0 b.0 x y u v a.1 b.1 e

-- ---- the messages

-- What is next for a session that begins: a message of the lawful exchange, of which the bytes held are a front.
record Ahead (c : ClientSeen) (g : GreetingSeen) (more : List ℕ) : Type 0 where
  next : Frame
  after : List ℕ
  whole : IsWhole backend_tags next
  parts : g.stream.held ++ more ≡ bytes_of next ++ after
  said : IsSaid next
  knows : KnowsSignature g.stage
  takes : is_asynchronous next ≡ false → Takes c g.stage next

heard_first : (f : Frame) (fs : List Frame) → is_asynchronous f ≡ false → heard (f ∷ fs) ≡ f ∷ heard fs
heard_first f fs e = rw e refl

takes_first : (c : ClientSeen) (stage last : Stage) (f : Frame) (fs : List Frame) (proofs : List Proof) → Leads c stage (f ∷ fs) proofs last → AllByRecursion CanBeSaid proofs → Takes c stage f
takes_first c stage last f fs proofs h s = record {
  message = h.0;
  next = h.1;
  proofs = h.2;
  carries = h.4;
  goes = h.5;
  sayable = each_first CanBeSaid h.2 h.3 (subst (λ (p : List Proof). AllByRecursion CanBeSaid p) h.6 s);
}

-- the bytes behind the answer to the question
behind_question : (e : EstablishSeen) (first : LinkSeen) (g : GreetingSeen) → IsGreeting e.client e.plan e.message first g → (h : HearsLawful e first g.stream.link)
    → (taken : List Frame) → (bytes : List ℕ) → Appends first.given g.stream.link.given bytes → (asked answered : List ℕ) → IsQuestion e.plan asked answered → bytes ≡ answered ++ (text_of taken ++ g.stream.held)
    → text_of taken ++ (g.stream.held ++ h.front.0) ≡ text_of h.lawful.handshake.frames ++ h.further
behind_question e first g i h taken bytes gave asked answered question is =
    let x = h.lawful.handshake in
    let held = g.stream.held in
    let given : h.given ≡ answered ++ (text_of taken ++ held) = gave_that first g.stream.link h.given bytes h.gave gave ∙ is in
    let left : h.given ++ h.front.0 ≡ answered ++ ((text_of taken ++ held) ++ h.front.0) = ap (λ (z : List ℕ). z ++ h.front.0) given ∙ append_assoc answered (text_of taken ++ held) h.front.0 in
    let right : h.read ++ h.further ≡ x.answered ++ (text_of x.frames ++ h.further) = ap (λ (z : List ℕ). z ++ h.further) x.read_is ∙ append_assoc x.answered (text_of x.frames) h.further in
    sym (append_assoc (text_of taken) held h.front.0)
    ∙ behind_answer e.plan asked x.asked answered x.answered ((text_of taken ++ held) ++ h.front.0) (text_of x.frames ++ h.further) question x.question (sym left ∙ h.front.1 ∙ right)

begun_none : (stage : Stage) (session : Session) → stage ≡ stages.Begun session → session_at stage ≡ None → ⊥
begun_none stage session e n = some_none (sym (ap session_at e) ∙ n)
  where
    some_none : Some session ≡ None → ⊥
    some_none e = cc

-- all frames of the exchange can't be taken before its end
not_all_taken : (c : ClientSeen) (stage : Stage) (frames taken : List Frame) (proofs said : List Proof) (session : Session) → Leads c stages.Request (heard taken) said stage → Leads c stages.Request (heard frames) proofs (stages.Begun session) → session_at stage ≡ None → AreTaken frames taken → ⊥
not_all_taken c stage frames taken proofs said session l x none t =
    let both : heard taken ≡ heard frames ++ heard t.0 = ap (λ (f : List Frame). heard f) t.1 ∙ heard-append frames t.0 in
    let on = leads_on c stages.Request (stages.Begun session) stage (heard frames) (heard t.0) proofs said x (subst (λ (f : List Frame). Leads c stages.Request f said stage) both l) in
    begun_none stage session (leads_no_more c session stage (heard t.0) on.0 on.2) none

next_ahead : (c : ClientSeen) (g : GreetingSeen) (frames taken : List Frame) (proofs said : List Proof) (session : Session) (more further : List ℕ) → Leads c stages.Request (heard taken) said g.stage → Leads c stages.Request (heard frames) proofs (stages.Begun session) → AllByRecursion IsSaid frames → AllByRecursion CanBeSaid proofs
    → IsNext frames taken (g.stream.held ++ more) further → Ahead c g more
next_ahead c g frames taken proofs said session more further l x messages sayable n =
    let both : heard frames ≡ heard taken ++ heard (n.next ∷ n.others) = ap (λ (f : List Frame). heard f) n.frames_are ∙ heard-append taken (n.next ∷ n.others) in
    let on = leads_on c stages.Request g.stage (stages.Begun session) (heard taken) (heard (n.next ∷ n.others)) said proofs l (subst (λ (f : List Frame). Leads c stages.Request f proofs (stages.Begun session)) both x) in
    let later = each_last CanBeSaid said on.0 (subst (λ (p : List Proof). AllByRecursion CanBeSaid p) on.1 sayable) in
    record {
      next = n.next;
      after = text_of n.others ++ further;
      whole = n.whole;
      parts = n.left;
      said = (each_last IsSaid taken (n.next ∷ n.others) (subst (λ (f : List Frame). AllByRecursion IsSaid f) n.frames_are messages)).0;
      knows = leads_knows c stages.Request g.stage (heard taken) said tt l;
      takes = λ plain. takes_first c g.stage (stages.Begun session) n.next (heard n.others) on.0 (subst (λ (f : List Frame). Leads c g.stage f on.0 (stages.Begun session)) (heard_first n.next n.others plain) on.2) later;
    }

ahead : (e : EstablishSeen) (first : LinkSeen) (g : GreetingSeen) → IsGreeting e.client e.plan e.message first g → session_at g.stage ≡ None → (h : HearsLawful e first g.stream.link) → Ahead e.client g h.front.0
ahead e first g i none h =
    let q = questioned e.plan first i.settled i.settles in
    let r = i.flows.read in
    let x = h.lawful.handshake in
    let framed = behind_question e first g i h i.frames (q.answered ++ r.0) (Appends-then first.given i.settled.given g.stream.link.given q.answered r.0 q.gave r.1) q.asked q.answered q.question (ap (λ (z : List ℕ). q.answered ++ z) r.2) in
    elim (taken_or_next x.frames i.frames (g.stream.held ++ h.front.0) h.further r.3 x.whole framed) [
      | inl t ↦ absurd (not_all_taken e.client g.stage x.frames i.frames x.proofs i.proofs h.lawful.session i.leads x.leads none t)
      | inr n ↦ next_ahead e.client g x.frames i.frames x.proofs i.proofs h.lawful.session h.front.0 h.further i.leads x.leads h.lawful.messages h.lawful.sayable n
    ]

-- the frame at the front is the next one
front_is : (held more after rest : List ℕ) (frame next : Frame) → IsWhole backend_tags frame → IsWhole backend_tags next → held ≡ bytes_of frame ++ rest → held ++ more ≡ bytes_of next ++ after → frame ≡ next
front_is held more after rest frame next w v e p =
    (frame_unique backend_tags frame next (rest ++ more) after w v (sym (append_assoc (bytes_of frame) rest more) ∙ ap (λ (z : List ℕ). z ++ more) (sym e) ∙ p)).0

not_malformed : (c : ClientSeen) (g : GreetingSeen) (more : List ℕ) (tag : ℕ) → Ahead c g more → IsMalformedFront g.stream.held tag → ⊥
not_malformed c g more tag n m =
    let same : n.next ≡ m.frame = sym (front_is g.stream.held more n.after m.rest m.frame n.next m.whole n.whole m.parts n.parts) in
    let said : IsSaid m.frame = subst IsSaid same n.said in
    m.refused said.0 said.1

front_fails : (c : ClientSeen) (g : GreetingSeen) (more : List ℕ) (error : Error) → Ahead c g more → IsFrontRefused c g error → IsMemory error
front_fails c g more error n (front, rest, whole, plain, parts, refused) =
    let same : front ≡ n.next = front_is g.stream.held more n.after rest front n.next whole n.whole parts n.parts in
    let plain' : is_asynchronous n.next ≡ false = ap is_asynchronous (sym same) ∙ plain in
    not_refused c g.stage front error n.knows (subst (λ (f : Frame). Takes c g.stage f) (sym same) (n.takes plain')) refused

greeting_fails : (c : ClientSeen) (before : LinkSeen) (g : GreetingSeen) (more : List ℕ) (error : Error) → Works before g.stream.link → Ahead c g more → HeardCause (fresh_stream before) g.stream error → IsMemory error
greeting_fails c before g more (errors.Protocol (protocol.Server (faults.Malformed tag))) w n h = absurd (not_malformed c g more tag n h)
greeting_fails c before g more errors.OutOfMemory w n h = refl
greeting_fails c before g more (errors.Io io.Fault) w n h = absurd (not_rose before.faults g.stream.link.faults w.faults h)
greeting_fails c before g more (errors.Io io.End) w n h = absurd (not_rose before.ends g.stream.link.ends w.ends h.0)
greeting_fails c before g more (errors.Protocol (protocol.Server (faults.ShortLength tag size))) w n h = absurd (no_header g.stream.held more n.after n.next (faults.ShortLength tag size) h n.whole n.parts)
greeting_fails c before g more (errors.Protocol (protocol.Server (faults.UnknownTag tag))) w n h = absurd (no_header g.stream.held more n.after n.next (faults.UnknownTag tag) h n.whole n.parts)
greeting_fails c before g more _ w n h = absurd h

-- ---- a poll

fails : (first before now : LinkSeen) (e : EstablishSeen) (phase : Phase LinkSeen) (error : Error) → HasLink phase now → Works before now → HearsLawful e first now → StartFails first before e phase error → IsMemory error
fails first before now e (phases.Asking q) error l w h f =
    asking_fails q.is_required q.wish e first before q.link error f.0 (subst (λ (x : LinkSeen). Works before x) l w) (subst (λ (x : LinkSeen). HearsLawful e first x) l h) f.1
fails first before now e (phases.Greeting g) error l w h (inl memory) = memory
fails first before now e (phases.Greeting g) error l w h (inr (i, none, cause)) =
    let h' = subst (λ (x : LinkSeen). HearsLawful e first x) l h in
    let n = ahead e first g i none h' in
    elim cause [
      | inl x ↦ greeting_fails e.client before g h'.front.0 error (subst (λ (x : LinkSeen). Works before x) l w) n x
      | inr x ↦ front_fails e.client g h'.front.0 error n x
    ]
fails first before now e phases.Gone error l w h f = absurd l

hears_same : (a b : EstablishSeen) (first now : LinkSeen) → b.client ≡ a.client → b.plan ≡ a.plan → b.message ≡ a.message → HearsLawful a first now → HearsLawful b first now
hears_same a b first now client plan message h = record {
  given = h.given;
  gave = h.gave;
  read = h.read;
  lawful = rw (client, plan, message) h.lawful;
  further = h.further;
  front = h.front;
}

pub lawful_start : (left now : ℕ) (a b : EstablishSeen) (first before after : LinkSeen) (e : Error) → IsStarting first a → HasLink a.phase before → PollsStart left now a b (Ready (Err e)) → HasLink b.phase after → Works before after → HearsLawful a first after → e ≡ errors.OutOfMemory
lawful_start left now a b first before after e starting kept p l w h =
    let on = p.on first before starting kept in
    let f = on.1 in
    same_link f.0 f.1 f.3
  where
    hears : HearsLawful b first after
    hears = hears_same a b first after p.client p.plan p.message h

    same_link : (x : LinkSeen) → HasLink b.phase x → StartFails first before b b.phase e → IsMemory e
    same_link x k s = fails first before after b b.phase e l w hears s

-- ---- a poll that waits

nothing_more : (e : EstablishSeen) (first now : LinkSeen) (h : HearsLawful e first now) → h.given ≡ h.read ++ h.further → h.front.0 ≡ []
nothing_more e first now h all = same_behind h.given h.front.0 [] (h.front.1 ∙ sym all ∙ sym (append-nil h.given))

-- a message of the server is held
no_message : (e : EstablishSeen) (first : LinkSeen) (g : GreetingSeen) → IsGreeting e.client e.plan e.message first g → session_at g.stage ≡ None → HearsAll e first g.stream.link → HasNone g.stream.held → ⊥
no_message e first g i none h no_frame =
    let n = ahead e first g i none h.hears in
    let nothing = nothing_more e first g.stream.link h.hears h.all in
    no_frame n.next n.after n.whole (sym (append-nil g.stream.held) ∙ ap (λ (z : List ℕ). g.stream.held ++ z) (sym nothing) ∙ n.parts)

some_bytes : (byte : ℕ) (answered text further : List ℕ) → answered ≡ byte ∷ [] → ◌≡◌ {A = List ℕ} [] ((answered ++ text) ++ further) → ⊥
some_bytes byte answered text further a e = none (rw a at e)
  where
    none : ◌≡◌ {A = List ℕ} [] (byte ∷ (text ++ further)) → ⊥
    none e = cc

-- its byte was read
no_answer : (required : Bool) (wish : TlsWish) (e : EstablishSeen) (first now : LinkSeen) → e.plan ≡ Ask required wish → HearsAll e first now → HasAsked first now asks.Answer → ⊥
no_answer required wish e first now plan h asked =
    let x = h.hears.lawful.handshake in
    let question = subst (λ (p : TlsPlan). IsQuestion p x.asked x.answered) plan x.question in
    let byte = one_byte required x.answered question.1 in
    let nothing : h.hears.given ≡ [] = gave_that first now h.hears.given [] h.hears.gave (Appends-from_keeps first.given now.given asked.1) in
    some_bytes byte.0 x.answered (text_of x.frames) h.hears.further byte.1 (sym nothing ∙ h.all ∙ ap (λ (r : List ℕ). r ++ h.hears.further) x.read_is)

asking_turn : (e : EstablishSeen) (first now : LinkSeen) (required : Bool) (wish : TlsWish) (asked : Asked) → e.plan ≡ Ask required wish → HearsAll e first now → HasAsked first now asked → IsAwaited asked → asked ≡ asks.Upgrade
asking_turn e first now required wish (asks.Sending sent) plan h has turn = absurd turn
asking_turn e first now required wish asks.Answer plan h has turn = absurd (no_answer required wish e first now plan h has)
asking_turn e first now required wish asks.Upgrade plan h has turn = refl

-- where it is the server's turn, that is the handshake's
servers_turn : (first now : LinkSeen) (e : EstablishSeen) (phase : Phase LinkSeen) → HasLink phase now → IsUnderWay e.client e.plan e.message first phase → IsUnbegun phase → HearsAll e first now → IsServersTurn phase → IsUpgrading phase
servers_turn first now e (phases.Asking q) l u none h turn = asking_turn e first q.link q.is_required q.wish q.asked u.0 (subst (λ (x : LinkSeen). HearsAll e first x) l h) u.1 turn
servers_turn first now e (phases.Greeting g) l u none h turn = absurd (no_message e first g u none (subst (λ (x : LinkSeen). HearsAll e first x) l h) turn.1)
servers_turn first now e phases.Gone l u none h turn = absurd l

one_link : (phase : Phase LinkSeen) (x y : LinkSeen) → HasLink phase x → HasLink phase y → x ≡ y
one_link (phases.Asking q) x y l k = l ∙ sym k
one_link (phases.Greeting g) x y l k = l ∙ sym k
one_link phases.Gone x y l k = absurd l

waits : (left now : ℕ) (first before after : LinkSeen) (e : EstablishSeen) (phase : Phase LinkSeen) → HasLink phase after → IsUnderWay e.client e.plan e.message first phase → IsUnbegun phase → HearsAll e first after → StartWaits left now before after phase → WaitsForLink left now before after phase
waits left now first before after e phase l u none h w = elim w [
  | inl x ↦ inl x
  | inr y ↦ elim y [
    | inl x ↦ inr (inl (x.0, servers_turn first after e phase l u none h x.1))
    | inr x ↦ inr (inr x)
  ]
]

pub lawful_wait : (left now : ℕ) (a b : EstablishSeen) (first before after : LinkSeen) → IsStarting first a → HasLink a.phase before → PollsStart left now a b Pending → HasLink b.phase after → HearsAll a first after → WaitsForLink left now before after b.phase
unfolding hears_same
lawful_wait left now a b first before after starting kept p l h =
    let on = (p.on first before starting kept).1 in
    let w = on.1 in
    let same : w.0 ≡ after = one_link b.phase w.0 after w.1 l in
    let hears : HearsAll b first after = record { hears = hears_same a b first after p.client p.plan p.message h.hears; all = h.all } in
    waits left now first before after b b.phase l on.0 on.2 hears (subst (λ (x : LinkSeen). StartWaits left now before x b.phase) same w.3)
