-- What a state of a call that isn't meant stays.
use Rattle.std.proofs.Common.{◌≡◌, ℕ, Bool, true, List, [], refl}
use Rattle.pg_values.specs.declared.format.PgValueFormat.TheVariants as formats
use Rattle.pg_rows.specs.declared.heading.Heading.{Heading}
use Rattle.pg_call.specs.declared.statement.Extended.{Extended}
use Rattle.pg_call.specs.declared.statement.Bound.{Bound}
use Rattle.pg_call.specs.declared.after.Eviction.{Eviction}
use Rattle.pg_call.specs.declared.after.Filling.{Filling}
use Rattle.pg_call.specs.declared.after.Lookup.{Lookup}
use Rattle.pg_call.specs.declared.statement.Prepared.{Prepared}
use Rattle.pg_call.specs.declared.after.Rest.{Rest}
use Rattle.pg_call.specs.declared.after.Rest.TheVariants as rests
use Rattle.pg_call.specs.declared.request.Request.{Request}
use Rattle.pg_call.specs.declared.request.Request.TheVariants as requests
use Rattle.pg_call.specs.declared.calling.Call.{Call}
use Rattle.pg_call.specs.declared.calling.Call.TheVariants as calls
use Rattle.pg_call.specs.Requests.{is_raw, kind_of, rest_of, heading_for, heading_of}
use Rattle.pg_call.specs.Hearing.{waits}

pub rests_none : (r : Request) → ((extended : Extended) → r ≡ requests.Describe extended → ⊥) → ((bound : Bound) → r ≡ requests.Run bound → ⊥) → ((lookup : Lookup) → r ≡ requests.Look lookup → ⊥) → ((filling : Filling) → r ≡ requests.Fill filling → ⊥) → ((eviction : Eviction) → r ≡ requests.Evict eviction → ⊥) → ((prepared : Prepared) → r ≡ requests.Prepare prepared → ⊥)
    → ◌≡◌ {A = Rest × Heading} (rests.Nothing, heading_for (kind_of r) [] formats.Text) (rest_of r, heading_of r)
rests_none (requests.Describe extended) n o l f p q = absurd (n extended refl)
rests_none (requests.Run bound) n o l f p q = absurd (o bound refl)
rests_none (requests.Look lookup) n o l f p q = absurd (l lookup refl)
rests_none (requests.Fill filling) n o l f p q = absurd (f filling refl)
rests_none (requests.Evict eviction) n o l f p q = absurd (p eviction refl)
rests_none (requests.Prepare prepared) n o l f p q = absurd (q prepared refl)
rests_none _ n o l f p q = refl

pub stays_asked : (frames : List ℕ) (failed : Bool) (call : Call) → ((r : Request) → call ≡ calls.Asked r → ⊥) → call ≡ waits frames failed call
stays_asked frames failed (calls.Asked r) n = absurd (n r refl)
stays_asked frames failed _ n = refl

-- ---- a query without arguments

pub raw_rest : (request : Request) → is_raw request ≡ true → (rest_of request ≡ rests.Nothing) × (heading_of request ≡ heading_for (kind_of request) [] formats.Text)
raw_rest (requests.Describe x) raw = absurd cc
raw_rest (requests.Run bound) raw = absurd cc
raw_rest (requests.Look lookup) raw = absurd cc
raw_rest (requests.Fill filling) raw = absurd cc
raw_rest (requests.Evict eviction) raw = absurd cc
raw_rest (requests.Prepare prepared) raw = absurd cc
raw_rest request raw = (refl, refl)
