-- An array or a map of which some members or pairs have been read, without complaint, and its bytes so far.
use Rattle.std.specs.Prelude.{ℕ, ◌+◌, ◌≤◌, ◌++◌, List, [], length}
use Rattle.cbor_head.specs.Prelude.{head, Spellings, SpelledEntries, spell_all, spell_entries, AreSpelled, AreEntriesSpelled, HoldsOrIndefinite, depth_all, depth_entries, Rules, OfCount}
use Rattle.cbor_head.specs.declared.{major.Major.TheVariants.Array, major.Major.TheVariants.Map, width.Width.Width}
use Rattle.theory_values.specs.MemberComplaints.{ComplainsIn, ComplainsInEntries}
use Rattle.theory_verdicts.specs.Judged.{Never}

-- an array of n members at an offset, of which these have been read, without complaint
pub record IsArraySoFar (r : Rules) (at d : ℕ) (w : Width) (n : ℕ) (done : Spellings) : Type 0 where
  pub holds : HoldsOrIndefinite w n
  pub spelled : AreSpelled done
  pub within : depth_all done ≤ d
  pub head_clean : Never (OfCount r at Array w n)
  pub clean : Never (ComplainsIn r (at + length (head Array w n)) done)

-- the bytes of the array so far
abbrev pub array_bytes : Width → ℕ → Spellings → List ℕ
array_bytes w n done = head Array w n ++ spell_all done

-- a map of n pairs at an offset, of which these have been read, without complaint
pub record IsMapSoFar (r : Rules) (at d : ℕ) (w : Width) (n : ℕ) (done : SpelledEntries) : Type 0 where
  pub holds : HoldsOrIndefinite w n
  pub spelled : AreEntriesSpelled done
  pub within : depth_entries done ≤ d
  pub head_clean : Never (OfCount r at Map w n)
  pub clean : Never (ComplainsInEntries r (at + length (head Map w n)) [] done)

abbrev pub map_bytes : Width → ℕ → SpelledEntries → List ℕ
map_bytes w n done = head Map w n ++ spell_entries done
