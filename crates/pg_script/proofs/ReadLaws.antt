-- Reading line by line.
use Rattle.std.proofs.Common.{◌≡◌, ℕ, ◌+◌, ◌-◌, ◌<◌, ◌≤◌, List, [], ◌∷◌, length, take, drop, Option, Some, None, Result, Ok, Err, sym, ap, ◌∙◌, arith, take_all}
use Rattle.pg_script.specs.declared.kind.Kind.{Kind}
use Rattle.pg_script.specs.declared.script.Script.{Script}
use Rattle.pg_script.specs.Scripts.{add_line, lines_of, lines_behind, read_from, read_next}

one_line : (kind : Kind) (n : ℕ) (s : Script) (line behind rest : List ℕ) → lines_of rest ≡ line ∷ lines_behind behind → read_from kind n s (lines_of rest) ≡ read_next n (add_line kind s line) (λ t. read_from kind (n + 1) t (lines_behind behind))
unfolding read_from
one_line kind n s line behind rest cut = ap (read_from kind n s) cut

pub bad_read : (kind : Kind) (n : ℕ) (s : Script) (line behind rest : List ℕ) (total : Result Script ℕ) → lines_of rest ≡ line ∷ lines_behind behind → add_line kind s line ≡ None → read_from kind n s (lines_of rest) ≡ total → total ≡ Err (n + 1)
bad_read kind n s line behind rest total cut bad so_far =
    sym so_far ∙ one_line kind n s line behind rest cut ∙ ap (λ (o : Option Script). read_next n o (λ t. read_from kind (n + 1) t (lines_behind behind))) bad

pub next_read : (kind : Kind) (n : ℕ) (s t : Script) (line behind rest : List ℕ) (total : Result Script ℕ) → lines_of rest ≡ line ∷ lines_behind behind → add_line kind s line ≡ Some t → read_from kind n s (lines_of rest) ≡ total → read_from kind (n + 1) t (lines_behind behind) ≡ total
next_read kind n s t line behind rest total cut good so_far =
    sym (sym so_far ∙ one_line kind n s line behind rest cut ∙ ap (λ (o : Option Script). read_next n o (λ t. read_from kind (n + 1) t (lines_behind behind))) good)

pub last_read : (kind : Kind) (n : ℕ) (t : Script) (behind : List ℕ) (total : Result Script ℕ) → length behind < 1 → read_from kind n t (lines_behind behind) ≡ total → total ≡ Ok t
unfolding read_from
last_read kind n t [] total lt so_far = sym so_far
last_read kind n t (b ∷ bs) total lt so_far = absurd (omega arith)

pub behind_one : (behind : List ℕ) → 1 ≤ length behind → lines_behind behind ≡ lines_of (take (length behind - 1) (drop 1 behind))
behind_one [] le = absurd (omega arith)
behind_one (b ∷ bs) le = ap lines_of (sym (take_all (length (b ∷ bs) - 1) bs (omega arith)))
