-- What a start and a drop of a call make of a connection is seen alike over any link.
use Rattle.std.proofs.Common.{◌≡◌, Bool, true, false, cond, refl, ap, ◌∙◌}
use Rattle.pg_stream.specs.Links.{LinkSeen}
use Rattle.pg_call.specs.declared.request.Request.{Request}
use Rattle.pg_call.specs.declared.calling.Call.TheVariants as calls
use Rattle.pg_call.specs.declared.kind.Keeping.TheVariants as keepings
use Rattle.pg_call.specs.Requests.{kind_of, change_of}
use Rattle.pg_conn.specs.Statements.{begun_as}
use Rattle.pg_conn.specs.Connections.{ConnOf, ConnSeen, seen_by, cleaned, counted_anew, idle, learnt_for, left, runs, started_call, unfed}
use Rattle.pg_conn.proofs.TurnLaws.{seen_cleaned, seen_unfed}

pub seen_left : {A : Type 0} (seen : A → LinkSeen) (c : ConnOf A) → seen_by seen (left c) ≡ left (seen_by seen c)
seen_left {A} seen c = by (runs c.call)
  where
    by : (r : Bool) → seen_by seen (cond r (idle (cleaned (unfed false c))) c) ≡ cond r (idle (cleaned (unfed false (seen_by seen c)))) (seen_by seen c)
    by false = refl
    by true = ap (λ (x : ConnSeen). idle x) (seen_cleaned seen (unfed false c) ∙ ap (λ (x : ConnSeen). cleaned x) (seen_unfed seen false c))

pub seen_started : {A : Type 0} (seen : A → LinkSeen) (r : Request) (c : ConnOf A) → seen_by seen (started_call r c) ≡ started_call r (seen_by seen c)
seen_started seen r c = ap (λ (x : ConnSeen). counted_anew (record x { call = calls.Asked (begun_as x.rule r); change = change_of (kind_of r); keeping = keepings.Stays; learnt = learnt_for r x.broken x.learnt })) (seen_left seen c)
