-- What a decoder answers to the body of a message.
use Rattle.std.specs.Prelude.{◌≡◌, ℕ, List, Result, Ok, Err}
use Rattle.pg_wire.specs.Backend.{BackendMessage, backend_frame, HasBackendFrame}
use Rattle.pg_wire.specs.declared.error.Error.{Error}
use Rattle.pg_wire.specs.declared.error.Error.TheVariants as errors
use Rattle.pg_wire.specs.declared.error.ProtocolFault.TheVariants as faults
use Rattle.pg_wire.specs.declared.error.ServerFault.TheVariants as servers

-- the bytes are the body of this message, in the grammar of its tag
abbrev pub Says : ℕ → List ℕ → BackendMessage → Type 0
Says tag body m = HasBackendFrame m × (backend_frame m ≡ record { tag = tag; body = body })

-- the refusal of a body that is not in the format of its tag
abbrev pub malformed : ℕ → Error
malformed tag = errors.Protocol (faults.Server (servers.Malformed tag))

-- only a body that no message of this tag has is refused, and the refusal names the tag
abbrev pub IsRefused : ℕ → List ℕ → Error → Type 0
IsRefused tag body (errors.Protocol (faults.Server (servers.Malformed named))) = (named ≡ tag) × ((m : BackendMessage) → Says tag body m → ⊥)
IsRefused tag body errors.OutOfMemory = Unit {0}
IsRefused tag body _ = ⊥

-- the answer is a message that the body says, and how the value tells it
abbrev pub DecodesAs : {X : Type 0} → (X → BackendMessage → Type 0) → ℕ → List ℕ → Result X Error → Type 0
DecodesAs tells tag body (Ok x) = (m : BackendMessage) × tells x m × Says tag body m
DecodesAs tells tag body (Err e) = IsRefused tag body e

-- the same where the value is seen as its message
abbrev pub Decodes : {X : Type 0} → (X → BackendMessage) → ℕ → List ℕ → Result X Error → Type 0
Decodes message tag body (Ok x) = Says tag body (message x)
Decodes message tag body (Err e) = IsRefused tag body e
