-- A reader of bodies tells whether a body is in its message's format.
use Rattle.std.proofs.Common.{ℕ, List, Result, Ok, Err}
use Rattle.pg_wire.specs.declared.error.Error.{Error}
use Rattle.pg_wire.specs.Backend.{BackendMessage}
use Rattle.pg_wire.specs.Decoding.{Decodes, DecodesAs}
use Rattle.pg_call.specs.Replies.{Checks}

pub decoded : {X : Type 0} (read : Result X Error) (message : X → BackendMessage) (tag : ℕ) (body : List ℕ) → Decodes message tag body read → Checks tag body read
decoded (Ok x) message tag body h = (message x, h)
decoded (Err e) message tag body h = h

pub decoded_as : {X : Type 0} (read : Result X Error) (tells : X → BackendMessage → Type 0) (tag : ℕ) (body : List ℕ) → DecodesAs tells tag body read → Checks tag body read
decoded_as (Ok x) tells tag body h = (h.0, h.2)
decoded_as (Err e) tells tag body h = h
