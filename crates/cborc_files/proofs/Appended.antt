-- Bytes of a reader, appended to others.
use Rattle.std.proofs.Common.{ℕ, ◌+◌, ◌-◌, ◌≡◌, ◌≤◌, None, Option, List, ◌++◌, append_assoc, length, length-append, take, drop, replicate, sym, ap, ◌∙◌, arith, length-take-le, take_all}
use Rattle.std.specs.declared.io.ErrorKind.TheVariants as kinds
use Rattle.std.proofs.{Math.Seq.drop-append_seam, lemmas.List.length-replicate, lemmas.List.take-append-le, KnownBytes.Consumes-trans, KnownBytes.Consumes-kept}
use Rattle.std.specs.{Io.KnownBytes.Consumes, Io.KnownBytes.Keeps, declared.io.ErrorKind.ErrorKind}
use Rattle.cborc_files.specs.{Folder.ReadsOn, Disk.IsAppended, Disk.IsCutShort}

-- The bytes that were read were added to the old ones, and this number of the requested bytes is left.
pub record IsTaken (most left : ℕ) (before now : Option (List ℕ)) (old new : List ℕ) : Type 0 where
  pub added : List ℕ
  pub is : new ≡ old ++ added
  pub size : length added + left ≡ most
  pub lost : Consumes before now added

-- one more part of those that are left: the prefix of a buffer
pub one_part : (most left count : ℕ) (before now after : Option (List ℕ)) (old mid new buf rest : List ℕ) → IsTaken most left before now old mid
    → new ≡ mid ++ take count (buf ++ rest) → count ≤ length buf → count ≤ left → Consumes now after (take count buf) → IsTaken most (left - count) before after old new
one_part most left count before now after old mid new buf rest t is within few lost =
    let part = take count buf in
    record {
      added = t.added ++ part;
      is = is ∙ ap (λ (xs : List ℕ). mid ++ xs) (take-append-le count buf rest within) ∙ ap (λ (xs : List ℕ). xs ++ part) t.is ∙ append_assoc old t.added part;
      size = omega (arith, t.size, length-take-le count buf within, few, length-append t.added part);
      lost = Consumes-trans before now after t.added part t.lost lost;
    }

-- a read that returned no bytes
pub none_lost : (most left : ℕ) (before now after : Option (List ℕ)) (old new : List ℕ) → IsTaken most left before now old new → Keeps now after
    → IsTaken most left before after old new
none_lost most left before now after old new t kept = record { added = t.added; is = t.is; size = t.size; lost = Consumes-kept before now after t.added t.lost kept }

-- memory was refused for a part that was read
pub cut_by_memory : (kind : ErrorKind) (most left : ℕ) (before now after : Option (List ℕ)) (old new part : List ℕ) → IsTaken most left before now old new
    → Consumes now after part → kind ≡ kinds.OutOfMemory → IsCutShort kind before after old new
cut_by_memory kind most left before now after old new part t lost memory = record {
  added = t.added;
  dropped = part;
  is = t.is;
  lost = Consumes-trans before now after t.added part t.lost lost;
  memory = λ _. memory;
}

-- a folder that does not say what it holds: some file has these bytes there
pub some_file : (path : List ℕ) (from most few : ℕ) (old new : List ℕ) → IsAppended few old new → few ≤ most → ReadsOn None path from most old new
some_file path from most few old new a l = record {
  whole = replicate from 0 ++ a.added;
  holds = tt;
  added =
      let following : drop from (replicate from 0 ++ a.added) ≡ a.added =
      ap (λ (k : ℕ). drop k (replicate from 0 ++ a.added)) (sym (length-replicate from 0)) ∙ drop-append_seam (replicate from 0) a.added in
      a.is ∙ ap (λ (xs : List ℕ). old ++ xs) (sym (ap (take most) following ∙ take_all most a.added (omega (arith, a.few, l))));
}
