-- Behind the call of a step the connection comes to the next place: what is known of the one is known of the other.
use Rattle.std.proofs.Common.{◌≡◌, List, [], ◌∷◌, ◌++◌, sym, ap, ◌∙◌, subst, append_assoc}
use Rattle.std.proofs.lemmas.List.Concat.{flat_map-append}
use Rattle.pg_wire.specs.Backend.{BackendMessage}
use Rattle.pg_wire.specs.Frame.{Frame}
use Rattle.pg_wire.specs.Frontend.{FrontendMessage}
use Rattle.pg_wire.specs.Parts.{heard}
use Rattle.pg_wire.specs.Server.{MayHear, ServerRun, fresh_server}
use Rattle.pg_stream.specs.Links.{LinkSeen, NoneFalls}
use Rattle.pg_stream.specs.Streams.{StreamSeen}
use Rattle.pg_call.specs.Requests.{Group, said_in}
use Rattle.pg_report.specs.declared.outcome.Outcome.{Outcome}
use Rattle.pg_report.specs.declared.outcome.End.{End}
use Rattle.pg_script.specs.declared.step.Call.{Call}
use Rattle.pg_script.specs.declared.step.Step.{Step}
use Rattle.pg_play.specs.Places.{Place}
use Rattle.pg_play.specs.Copying.{LeavesCopy}
use Rattle.pg_play.specs.Settling.{Settles}
use Rattle.pg_play.specs.Causes.{IsFront}
use Rattle.pg_play.specs.WaitPlaces.{WaitPlaces}

-- what may be heard by more messages may be heard by the first of them
pub hear_sooner : (said extra : List FrontendMessage) (hs : List Frame) → MayHear (said ++ extra) hs → MayHear said hs
hear_sooner said extra hs l = record {
  more = extra ++ l.more;
  after = l.after;
  replies = l.replies;
  run = subst (λ (t : List FrontendMessage). ServerRun fresh_server t l.replies l.after) (append_assoc said extra l.more) l.run;
  replies_have_frames = l.replies_have_frames;
  heard_is = l.heard_is;
}

hear_before : (groups extra : List Group) (hs : List Frame) → MayHear (said_in (groups ++ extra)) hs → MayHear (said_in groups) hs
hear_before groups extra hs l = hear_sooner (said_in groups) (said_in extra) hs (subst (λ (t : List FrontendMessage). MayHear t hs) (flat_map-append (λ g. g) groups extra) l)

link_same : {response : List BackendMessage} (at : Place) (step : Step) (told out : Outcome) (own : List Group) (mid next : Place) → Settles at step told out own response mid next → next.seen.link ≡ mid.seen.link
link_same at step told out own mid next s = ap (λ (x : StreamSeen). x.link) s.seen

pub held_same : {response : List BackendMessage} (at : Place) (step : Step) (told out : Outcome) (own : List Group) (mid next : Place) → Settles at step told out own response mid next → next.seen.held ≡ mid.seen.held
held_same at step told out own mid next s = ap (λ (x : StreamSeen). x.held) s.seen

-- ---- what is left of a copy from the client leaves all but what is said

pub left_link : (call : Call) (own : List Group) (end : End) (mid left : Place) → LeavesCopy call own end mid left → left.seen.link ≡ mid.seen.link
left_link call own end mid left l = ap (λ (p : Place). p.seen.link) l

pub left_held : (call : Call) (own : List Group) (end : End) (mid left : Place) → LeavesCopy call own end mid left → left.seen.held ≡ mid.seen.held
left_held call own end mid left l = ap (λ (p : Place). p.seen.held) l

pub left_groups : (call : Call) (own : List Group) (end : End) (mid left : Place) → LeavesCopy call own end mid left → left.groups ≡ mid.groups
left_groups call own end mid left l = ap (λ (p : Place). p.groups) l

pub left_frames : (call : Call) (own : List Group) (end : End) (mid left : Place) → LeavesCopy call own end mid left → left.frames ≡ mid.frames
left_frames call own end mid left l = ap (λ (p : Place). p.frames) l

pub left_broken : (call : Call) (own : List Group) (end : End) (mid left : Place) → LeavesCopy call own end mid left → left.broken ≡ mid.broken
left_broken call own end mid left l = ap (λ (p : Place). p.broken) l

pub left_counts : (call : Call) (own : List Group) (end : End) (mid left : Place) (link : LinkSeen) → LeavesCopy call own end mid left → NoneFalls link mid.seen.link → NoneFalls link left.seen.link
left_counts call own end mid left link l n = subst (λ (x : LinkSeen). NoneFalls link x) (sym (left_link call own end mid left l)) n

pub left_waits : (at : Place) (out : Outcome) (call : Call) (own : List Group) (end : End) (mid left : Place) → LeavesCopy call own end mid left → WaitPlaces at out mid → WaitPlaces at out left
left_waits at out call own end mid left l w =
    let link = left_link call own end mid left l in
    let held = left_held call own end mid left l in
    let frames = left_frames call own end mid left l in
    record {
      bytes = w.bytes;
      gave = rw link w.gave;
      read = rw (frames, held) w.read;
      places = w.places;
      told = rw link w.told;
      write_waits = w.write_waits;
      all = w.all;
      writes = rw link w.writes;
      behind = rw frames w.behind;
    }

pub settled_counts : {response : List BackendMessage} (at : Place) (step : Step) (told out : Outcome) (own : List Group) (mid next : Place) (link : LinkSeen) → Settles at step told out own response mid next → NoneFalls link mid.seen.link → NoneFalls link next.seen.link
settled_counts at step told out own mid next link s n = subst (λ (x : LinkSeen). NoneFalls link x) (sym (link_same at step told out own mid next s)) n

pub front_behind : (mid next : Place) (front : Frame) → next.seen.held ≡ mid.seen.held → IsFront mid front → IsFront next front
front_behind mid next front e f = record { rest = f.rest; whole = f.whole; answers = f.answers; held = e ∙ f.held }

-- and what may be heard behind it may be heard before
pub heard_before : {response : List BackendMessage} (at : Place) (step : Step) (told out : Outcome) (own : List Group) (mid next : Place) (front : Frame) → Settles at step told out own response mid next → MayHear (said_in next.groups) (heard next.frames ++ front ∷ []) → MayHear (said_in mid.groups) (heard mid.frames ++ front ∷ [])
heard_before at step told out own mid next front s l =
    hear_before mid.groups s.cleanup (heard mid.frames ++ front ∷ [])
    (subst (λ (g : List Group). MayHear (said_in g) (heard mid.frames ++ front ∷ [])) s.groups (subst (λ (f : List Frame). MayHear (said_in next.groups) (heard f ++ front ∷ [])) s.frames l))

pub settled_waits : {response : List BackendMessage} (at : Place) (step : Step) (told out : Outcome) (own : List Group) (mid next : Place) → Settles at step told out own response mid next → WaitPlaces at told mid → WaitPlaces at out next
settled_waits at step told out own mid next s w =
    let link = link_same at step told out own mid next s in
    let held = held_same at step told out own mid next s in
    record {
      bytes = w.bytes;
      gave = rw link w.gave;
      read = rw (s.frames, held) w.read;
      places = w.places;
      told = rw link w.told;
      write_waits = w.write_waits;
      all = w.all ∙ sym (ap (λ (x : Outcome). x.waits) s.outcome);
      writes = rw link w.writes;
      behind = rw s.frames w.behind;
    }
