-- What a client's copy messages do.
use Rattle.pg_wire.specs.declared.fields.ErrorField.{ErrorField}
use Rattle.pg_wire.specs.declared.status.TransactionStatus.{TransactionStatus}
use Rattle.std.proofs.Common.{◌≡◌, ℕ, Bool, true, false, cond, ◌||◌, List, [], ◌∷◌, ap, ◌∙◌}
use Rattle.pg_wire.specs.Frontend.{Sync, CopyData, CopyFail}
use Rattle.pg_wire.specs.Backend.{BackendMessage, ReadyForQuery, ErrorResponse}
use Rattle.pg_wire.specs.Server.{Server, ServerStep, Ignores}
use Rattle.pg_wire.specs.Copying.{CopyServer, CopyMode, NotCopying, QueryCopies, ExecuteCopies, StepsInMode, CopyStep, Leaves}
use Rattle.pg_wire.proofs.Tests.{of_two, where_neither}

abbrev made : Server → CopyMode → CopyServer
made server mode = record { server = server; mode = mode }

-- nothing is replied, and nothing changes
abbrev IsSilent : CopyServer → List BackendMessage → CopyServer → Type 0
IsSilent old rs new = (rs ≡ []) × (new ≡ old)

one_of : (over skip : Bool) (A : Type 0) → cond over A (cond skip A A) → A
one_of true skip A h = h
one_of false true A h = h
one_of false false A h = h

silent : (server next : Server) (mode : CopyMode) (rs : List BackendMessage) (new : CopyServer) → Ignores server rs next → Leaves next mode new → IsSilent (made server mode) rs new
silent server next mode rs new h l = (h.0, l ∙ ap (λ (m : Server). made m mode) h.1)

data_ignored : (server : Server) (mode : CopyMode) (bytes : List ℕ) (rs : List BackendMessage) (new : CopyServer) → (next : Server) × ServerStep server (CopyData bytes) rs next × Leaves next mode new → IsSilent (made server mode) rs new
data_ignored server mode bytes rs new h = silent server h.0 mode rs new (one_of server.over server.skip _ h.1) h.2

data_in : (server : Server) (mode : CopyMode) (bytes : List ℕ) (rs : List BackendMessage) (new : CopyServer) → StepsInMode server mode (CopyData bytes) rs new → IsSilent (made server mode) rs new
data_in server NotCopying bytes rs new h = data_ignored server NotCopying bytes rs new h
data_in server QueryCopies bytes rs new h = h
data_in server ExecuteCopies bytes rs new h = h

pub data_is_silent : (old new : CopyServer) (bytes : List ℕ) (rs : List BackendMessage) → CopyStep old (CopyData bytes) rs new → (rs ≡ []) × (new ≡ old)
data_is_silent old new bytes rs step = of_two (old.server.over || old.server.skip) _ _ _ (data_ignored old.server old.mode bytes rs new) (data_in old.server old.mode bytes rs new) step

pub query_copy_fails : (server : Server) (new : CopyServer) (text : List ℕ) (rs : List BackendMessage) → server.over ≡ false → server.skip ≡ false → CopyStep (made server QueryCopies) (CopyFail text) rs new
    → (details : List ErrorField) × (status : TransactionStatus) × (rs ≡ ErrorResponse details ∷ ReadyForQuery status ∷ []) × (new ≡ made server NotCopying)
query_copy_fails server new text rs e k step = where_neither server.over server.skip _ _ e k step

pub execute_copy_fails : (server : Server) (new : CopyServer) (text : List ℕ) (rs : List BackendMessage) → server.over ≡ false → server.skip ≡ false → CopyStep (made server ExecuteCopies) (CopyFail text) rs new
    → (details : List ErrorField) × (rs ≡ ErrorResponse details ∷ []) × (new ≡ made (record server { skip = true }) NotCopying)
execute_copy_fails server new text rs e k step = where_neither server.over server.skip _ _ e k step

pub no_sync_in_query : (server : Server) (new : CopyServer) (rs : List BackendMessage) → server.over ≡ false → server.skip ≡ false → CopyStep (made server QueryCopies) Sync rs new → ⊥
no_sync_in_query server new rs e k step = where_neither server.over server.skip _ _ e k step

pub no_sync_in_execute : (server : Server) (new : CopyServer) (rs : List BackendMessage) → server.over ≡ false → server.skip ≡ false → CopyStep (made server ExecuteCopies) Sync rs new → ⊥
no_sync_in_execute server new rs e k step = where_neither server.over server.skip _ _ e k step
