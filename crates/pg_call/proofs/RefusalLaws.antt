-- A request that is refused is refused for want of memory or by a fault of the caller's.
use Rattle.std.proofs.Common.{◌≡◌, ◌⊎◌, inl, inr, ℕ, List, [], ◌∷◌, refl, Option, Some, None}
use Rattle.pg_wire.specs.declared.error.Error.{Error}
use Rattle.pg_wire.specs.declared.error.Error.TheVariants as errors
use Rattle.pg_wire.specs.declared.error.CallerFault.{CallerFault}
use Rattle.pg_wire.specs.declared.error.ProtocolFault.TheVariants as protocol
use Rattle.pg_wire.specs.Encoding.{Refuses}
use Rattle.pg_request.specs.Queries.{QueryText}
use Rattle.pg_call.specs.declared.statement.Bound.{Bound}
use Rattle.pg_call.specs.declared.statement.Extended.{Extended}
use Rattle.pg_call.specs.declared.request.Request.{Request}
use Rattle.pg_call.specs.declared.request.Request.TheVariants as requests
use Rattle.pg_call.specs.Requests.{query_of, RefusesAgain, RefusesPieces, RefusesQuery, RefusesExtended, IsRefusal}

abbrev pub IsCallers : Error → Type 0
IsCallers e = (e ≡ errors.OutOfMemory) ⊎ ((fault : CallerFault) × (e ≡ errors.Protocol (protocol.Caller fault)))

refuses_is : (count : ℕ) (Texts : Type 0) (size : ℕ) (e : Error) → Refuses count Texts size e → IsCallers e
refuses_is count Texts size errors.OutOfMemory h = inl refl
refuses_is count Texts size (errors.Protocol (protocol.Caller fault)) h = inr (fault, refl)
refuses_is count Texts size _ h = absurd h

extended_is : (x : Extended) (e : Error) → RefusesExtended x e → IsCallers e
extended_is x errors.OutOfMemory h = inl refl
extended_is x (errors.Protocol (protocol.Caller fault)) h = inr (fault, refl)
extended_is x _ h = absurd h

query_is : (query : Option QueryText) (e : Error) → RefusesQuery query e → IsCallers e
query_is None e h = inl h
query_is (Some query) e h = refuses_is 0 _ _ e h

pieces_is : (pieces : List (List ℕ)) (e : Error) → RefusesPieces pieces e → IsCallers e
pieces_is [] e h = inl h
pieces_is (piece ∷ pieces) e (inl h) = refuses_is 0 _ _ e h
pieces_is (piece ∷ pieces) e (inr h) = pieces_is pieces e h

again_is : (bound : Bound) (again : Option (List ℕ)) (e : Error) → RefusesAgain bound again e → IsCallers e
again_is bound None e h = absurd h
again_is bound (Some sql) e h = refuses_is _ _ _ e h

pub refusal_is : (r : Request) (e : Error) → IsRefusal r e → IsCallers e
refusal_is (requests.Describe extended) e h = extended_is extended e h
refusal_is (requests.Run bound) e (inl h) = refuses_is _ _ _ e h
refusal_is (requests.Run bound) e (inr (inl h)) = again_is bound bound.again e h
refusal_is (requests.Run bound) e (inr (inr h)) = refuses_is _ _ _ e h
refusal_is (requests.Look lookup) e h = query_is (query_of (requests.Look lookup)) e h
refusal_is (requests.Fill filling) e h = query_is (query_of (requests.Fill filling)) e h
refusal_is (requests.Execute query) e h = query_is (Some query) e h
refusal_is (requests.ExecuteMany query) e h = query_is (Some query) e h
refusal_is (requests.Fetch query) e h = query_is (Some query) e h
refusal_is (requests.FetchMany query) e h = query_is (Some query) e h
refusal_is (requests.FetchAll query) e h = query_is (Some query) e h
refusal_is (requests.FetchOptional query) e h = query_is (Some query) e h
refusal_is (requests.FetchOne query) e h = query_is (Some query) e h
refusal_is (requests.Begin depth) e h = query_is (query_of (requests.Begin depth)) e h
refusal_is (requests.BeginWith query) e h = query_is (Some query) e h
refusal_is (requests.CopyOut query) e h = query_is (Some query) e h
refusal_is (requests.CopyIn feed) e (inl h) = query_is (Some feed.query) e h
refusal_is (requests.CopyIn feed) e (inr h) = pieces_is feed.pieces e h
refusal_is (requests.Commit left) e h = query_is (query_of (requests.Commit left)) e h
refusal_is (requests.Rollback left) e h = query_is (query_of (requests.Rollback left)) e h
refusal_is (requests.Evict eviction) e h = query_is None e h
refusal_is (requests.Prepare prepared) e h = refuses_is 0 _ 0 e h
refusal_is (requests.Clear statements) e h = query_is None e h
refusal_is requests.Ping e h = query_is None e h
refusal_is requests.Flush e h = query_is None e h
refusal_is requests.Close e h = query_is None e h

-- want of memory may refuse each
pub memory_refuses : (r : Request) → IsRefusal r errors.OutOfMemory
memory_refuses (requests.Describe extended) = tt
memory_refuses (requests.Run bound) = inl tt
memory_refuses (requests.Evict eviction) = refl
memory_refuses (requests.Prepare prepared) = tt
memory_refuses (requests.Clear statements) = refl
memory_refuses requests.Ping = refl
memory_refuses (requests.CopyIn feed) = inl tt
memory_refuses requests.Flush = refl
memory_refuses requests.Close = refl
memory_refuses _ = tt
