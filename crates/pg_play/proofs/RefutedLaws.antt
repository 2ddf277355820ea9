-- Outcomes that no play tells.
use Rattle.std.proofs.Common.{◌≡◌, ◌∙◌, ℕ, arith, Some, codes, List, [], ◌∷◌, sym, ap, subst}
use Rattle.pg_wire.specs.Frame.{Frame}
use Rattle.pg_wire.specs.Backend.{BackendMessage}
use Rattle.pg_wire.specs.Exchanges.{selected}
use Rattle.pg_wire.specs.Server.{IsPrefixOf}
use Rattle.pg_report.specs.declared.outcome.Item.{Item}
use Rattle.pg_report.specs.declared.outcome.Item.TheVariants.{Row}
use Rattle.pg_report.specs.declared.outcome.Answer.{Answer}
use Rattle.pg_report.specs.declared.outcome.Answer.TheVariants.{Unit as AnswersUnit, Total}
use Rattle.pg_report.specs.declared.outcome.End.{End}
use Rattle.pg_report.specs.declared.outcome.End.TheVariants as ends
use Rattle.pg_report.specs.declared.outcome.Outcome.{Outcome}
use Rattle.pg_script.specs.declared.step.Call.{Call}
use Rattle.pg_script.specs.declared.step.Call.TheVariants as calls
use Rattle.pg_play.specs.Shown.{items_in, shown_by, answered_by, acts_at_once}
use Rattle.pg_play.proofs.NextLaws.{replies_same}
use Rattle.pg_play.specs.Places.{main_frames}
use Rattle.pg_play.specs.Told.{Carry, WellAtOk}
use Rattle.pg_play.specs.Refuted.{TellsSelected, NoTotalOfZero, NoOkWithoutRow, NoOtherRow}

-- frames carry one list of messages
pub carried : (frames : List Frame) (xs ys : List BackendMessage) → Carry frames xs → Carry frames ys → xs ≡ ys
carried frames xs ys c d = replies_same xs ys (sym c.0 ∙ d.0) c.1 d.1

total_in : Answer → ℕ
total_in (Total n) = n
total_in _ = 0

own_is : (call : Call) (out : Outcome) (t : TellsSelected call out) → t.told.response ≡ selected
own_is call out t = carried (main_frames t.at t.own t.slice) t.told.response selected t.told.says t.replied

pub no_total_of_zero : NoTotalOfZero
unfolding total_in
no_total_of_zero query out t e =
    let well : WellAtOk (ends.Ok (Total 0)) t.step out t.told.response t.slice t.next = subst (λ (end : End). WellAtOk end t.step out t.told.response t.slice t.next) e (t.told.well (ap acts_at_once t.calls)) in
    let answer : Total 0 ≡ answered_by (calls.Execute query) (items_in selected) =
    well.answers ∙ ap (λ (c : Call). answered_by c (items_in t.told.response)) t.calls ∙ ap (λ (r : List BackendMessage). answered_by (calls.Execute query) (items_in r)) (own_is (calls.Execute query) out t) in
    let zero : ◌≡◌ {A = ℕ} 0 1 = ap total_in answer in
    absurd cc

pub no_ok_without_row : NoOkWithoutRow
no_ok_without_row query out t e none =
    let well : WellAtOk (ends.Ok AnswersUnit) t.step out t.told.response t.slice t.next = subst (λ (end : End). WellAtOk end t.step out t.told.response t.slice t.next) e (t.told.well (ap acts_at_once t.calls)) in
    let items : [] ≡ shown_by (calls.FetchAll query) (items_in selected) =
    sym none ∙ well.items ∙ ap (λ (c : Call). shown_by c (items_in t.told.response)) t.calls ∙ ap (λ (r : List BackendMessage). shown_by (calls.FetchAll query) (items_in r)) (own_is (calls.FetchAll query) out t) in
    absurd cc

byte_of : List Item → ℕ
byte_of (Row (Some (b ∷ bs) ∷ vs) ∷ items) = b
byte_of _ = 0

apart : ◌≡◌ {A = ℕ} 50 49 → ⊥
apart e = absurd (omega (arith, e))

pub no_other_row : NoOtherRow
unfolding byte_of
no_other_row query out t other =
    let shown : shown_by t.step.call (items_in t.told.response) ≡ shown_by (calls.FetchAll query) (items_in selected) =
    ap (λ (c : Call). shown_by c (items_in t.told.response)) t.calls ∙ ap (λ (r : List BackendMessage). shown_by (calls.FetchAll query) (items_in r)) (own_is (calls.FetchAll query) out t) in
    let prefix : IsPrefixOf (Row (Some (codes "2") ∷ []) ∷ []) (shown_by (calls.FetchAll query) (items_in selected)) =
    subst (λ (x : List Item). IsPrefixOf x (shown_by (calls.FetchAll query) (items_in selected))) other (subst (λ (y : List Item). IsPrefixOf out.items y) shown t.told.shows) in
    apart (ap byte_of prefix.1)
