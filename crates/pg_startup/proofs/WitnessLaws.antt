-- A lawful exchange with any client: AuthenticationOk and ReadyForQuery.
use Rattle.std.proofs.Common.{ℕ, List, [], ◌∷◌, ◌++◌, refl, arith, inl}
use Rattle.pg_wire.specs.Frame.{Frame, text_of}
use Rattle.pg_wire.specs.Backend.{backend_frame}
use Rattle.pg_wire.specs.Backend as backend
use Rattle.pg_wire.specs.Frontend.{ssl_request}
use Rattle.pg_wire.specs.declared.message.authentication.Authentication.TheVariants as requests
use Rattle.pg_wire.specs.declared.status.TransactionStatus.TheVariants as statuses
use Rattle.pg_stream.specs.Parameters.{Carries}
use Rattle.pg_stream.specs.Streams.{AreFrames}
use Rattle.pg_auth.specs.declared.tls.TlsPlan.{TlsPlan}
use Rattle.pg_auth.specs.declared.tls.TlsPlan.TheVariants.{Plain, Ask}
use Rattle.pg_startup.specs.declared.stage.Session.{Session}
use Rattle.pg_startup.specs.declared.stage.Stage.TheVariants as stages
use Rattle.pg_startup.specs.Exchange.{ClientSeen, no_keys, Leads}
use Rattle.pg_startup.specs.Lawful.{IsLawful}

abbrev frames : List Frame
frames = backend_frame (backend.Authentication 0 []) ∷ backend_frame (backend.ReadyForQuery statuses.Idle) ∷ []

abbrev session : Session
session = record { keys = no_keys; status = statuses.Idle }

whole : AreFrames frames
whole = (record { known = refl; fits = omega arith }, (record { known = refl; fits = omega arith }, tt))

accepts : Carries (backend_frame (backend.Authentication 0 [])) (backend.Authentication 0 [])
accepts = ((omega arith, refl), refl)

ready : Carries (backend_frame (backend.ReadyForQuery statuses.Idle)) (backend.ReadyForQuery statuses.Idle)
ready = (tt, refl)

leads : (c : ClientSeen) → Leads c stages.Request frames [] (stages.Begun session)
leads c = (
  backend.Authentication 0 [],
  stages.Accepted no_keys,
  [],
  [],
  accepts,
  (requests.Ok, (0, [], refl, (refl, refl)), (refl, refl)),
  refl,
  (backend.ReadyForQuery statuses.Idle, stages.Begun session, [], [], ready, (no_keys, refl, refl, refl), refl, (refl, refl)),
)

pub some_lawful : (c : ClientSeen) (plan : TlsPlan) (message : List ℕ) → (read : List ℕ) × IsLawful c plan message read
some_lawful c Plain message = (
  [] ++ text_of frames,
  record {
    said = [] ++ (message ++ []);
    session = session;
    handshake = record { asked = []; answered = []; question = (refl, refl); proofs = []; frames = frames; whole = whole; leads = leads c; said_is = refl; read_is = refl };
    messages = ((backend.Authentication 0 [], accepts), ((backend.ReadyForQuery statuses.Idle, ready), tt));
    sayable = tt;
  },
)
some_lawful c (Ask required wish) message = (
  (83 ∷ []) ++ text_of frames,
  record {
    said = ssl_request ++ (message ++ []);
    session = session;
    handshake = record { asked = ssl_request; answered = 83 ∷ []; question = (refl, inl refl); proofs = []; frames = frames; whole = whole; leads = leads c; said_is = refl; read_is = refl };
    messages = ((backend.Authentication 0 [], accepts), ((backend.ReadyForQuery statuses.Idle, ready), tt));
    sayable = tt;
  },
)
