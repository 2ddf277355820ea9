-- Frames that were taken off some bytes, and what stands behind them.
use Rattle.std.proofs.Common.{◌≡◌, ℕ, List, [], ◌∷◌, ◌++◌, refl, sym, ap₂, ◌∙◌, append_assoc, inl, inr, ◌⊎◌}
use Rattle.pg_wire.specs.declared.error.ServerFault.{ServerFault}
use Rattle.pg_wire.specs.declared.error.ServerFault.TheVariants as faults
use Rattle.pg_wire.specs.Frame.{Frame, bytes_of, text_of, backend_tags, IsWhole}
use Rattle.pg_wire.proofs.CutLaws.{frame_unique}
use Rattle.pg_wire.proofs.GrowLaws.{unknown_no_frame, short_no_frame, unknown_grows, short_grows}
use Rattle.pg_stream.specs.Streams.{AreFrames, HeaderFault}

-- all of these frames were taken
abbrev pub AreTaken : List Frame → List Frame → Type 0
AreTaken frames taken = (more : List Frame) × (taken ≡ frames ++ more)

-- The next of these frames begins what is left.
pub record IsNext (frames taken : List Frame) (rest further : List ℕ) : Type 0 where
  pub next : Frame
  pub others : List Frame
  pub frames_are : frames ≡ taken ++ next ∷ others
  pub whole : IsWhole backend_tags next
  pub left : rest ≡ bytes_of next ++ (text_of others ++ further)

next_behind : (f g : Frame) (frames taken : List Frame) (rest further : List ℕ) → f ≡ g → IsNext frames taken rest further → IsNext (g ∷ frames) (f ∷ taken) rest further
next_behind f g frames taken rest further e n = record {
  next = n.next;
  others = n.others;
  frames_are = ap₂ (λ (x : Frame) (xs : List Frame). x ∷ xs) (sym e) n.frames_are;
  whole = n.whole;
  left = n.left;
}

taken_behind : (f g : Frame) (frames taken : List Frame) → f ≡ g → AreTaken frames taken → AreTaken (g ∷ frames) (f ∷ taken)
taken_behind f g frames taken e t = (t.0, ap₂ (λ (x : Frame) (xs : List Frame). x ∷ xs) e t.1)

-- bytes are framed in one way
pub taken_or_next : (frames taken : List Frame) (rest further : List ℕ) → AreFrames taken → AreFrames frames → text_of taken ++ rest ≡ text_of frames ++ further → AreTaken frames taken ⊎ IsNext frames taken rest further
taken_or_next [] taken rest further h k e = inl (taken, refl)
taken_or_next (g ∷ frames) [] rest further h k e = inr (record { next = g; others = frames; frames_are = refl; whole = k.0; left = e ∙ append_assoc (bytes_of g) (text_of frames) further })
taken_or_next (g ∷ frames) (f ∷ taken) rest further h k e =
    let heads = frame_unique backend_tags f g (text_of taken ++ rest) (text_of frames ++ further) h.0 k.0 (sym (append_assoc (bytes_of f) (text_of taken) rest) ∙ e ∙ append_assoc (bytes_of g) (text_of frames) further) in
    elim (taken_or_next frames taken rest further h.1 k.1 heads.1) [
      | inl t ↦ inl (taken_behind f g frames taken heads.0 t)
      | inr n ↦ inr (next_behind f g frames taken rest further heads.0 n)
    ]

-- no frame begins with a header that no frame has
pub no_header : (held more after : List ℕ) (frame : Frame) (fault : ServerFault) → HeaderFault held fault → IsWhole backend_tags frame → held ++ more ≡ bytes_of frame ++ after → ⊥
no_header held more after frame (faults.ShortLength tag size) h w e = short_no_frame backend_tags (held ++ more) tag size (short_grows backend_tags held more tag size h) frame after w e
no_header held more after frame (faults.UnknownTag tag) h w e = unknown_no_frame backend_tags (held ++ more) tag (unknown_grows backend_tags held more tag h) frame after w e
no_header held more after frame _ h w e = h
