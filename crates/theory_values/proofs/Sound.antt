-- Values in range and valid, at every depth.
use Rattle.std.proofs.Common.{◌↔◌, inl, inr, sym, subst}
use Rattle.cbor_head.specs.Prelude.{Value, Entries, HasEntry, IsInRange, IsValid, AreEntriesInRange, AreEntriesValid}
use Rattle.cbor_head.specs.Value.{no_entries, entry}
use Rattle.theory_values.specs.Pairs.{AreKeysValid}

pub record IsSound (v : Value) : Type 0 where
  pub range : IsInRange v
  pub valid : IsValid v

pub sound : (v : Value) → IsInRange v → IsValid v → IsSound v
sound v h g = record { range = h; valid = g }

pub ranges_at : (es : Entries) (k v : Value) → AreEntriesInRange es → HasEntry es k v → IsInRange k × IsInRange v
ranges_at no_entries k v a m = absurd m
ranges_at (entry k' v' es) k v a (inl e) = (subst IsInRange (sym e.0) a.0, subst IsInRange (sym e.1) a.1)
ranges_at (entry k' v' es) k v a (inr m) = ranges_at es k v a.2 m

pub valid_at : (es : Entries) (k v : Value) → AreEntriesValid es → HasEntry es k v → IsValid k × IsValid v
valid_at no_entries k v a m = absurd m
valid_at (entry k' v' es) k v a (inl e) = (subst IsValid (sym e.0) a.0, subst IsValid (sym e.1) a.1)
valid_at (entry k' v' es) k v a (inr m) = valid_at es k v a.2 m

pub sound_at : (es : Entries) (k v : Value) → AreEntriesInRange es → AreEntriesValid es → HasEntry es k v → IsSound k × IsSound v
sound_at es k v h g m =
    let r = ranges_at es k v h m in let u = valid_at es k v g m in (sound k r.0 u.0, sound v r.1 u.1)

pub key_at : (es : Entries) (k v : Value) → AreEntriesInRange es → AreKeysValid es → HasEntry es k v → IsSound k
key_at es k v h g m = sound k (ranges_at es k v h m).0 (valid es k v g m)
  where
    valid : (es : Entries) (k v : Value) → AreKeysValid es → HasEntry es k v → IsValid k
    valid no_entries k v a m = absurd m
    valid (entry k' v' es) k v a (inl e) = subst IsValid (sym e.0) a.0
    valid (entry k' v' es) k v a (inr m) = valid es k v a.1 m

-- what follows the keys is valid
abbrev pub AreContentsValid : Entries → Type 0
AreContentsValid no_entries = Unit {0}
AreContentsValid (entry k v es) = IsValid v × AreContentsValid es

-- a map's keys, and what follows them
pub valid_apart : (es : Entries) → AreEntriesValid es ↔ (AreKeysValid es × AreContentsValid es)
valid_apart no_entries = ((λ h. (tt, tt)), (λ h. tt))
valid_apart (entry k v es) =
    let more = valid_apart es in (
      (λ h. let r = more.0 h.2 in ((h.0, r.0), (h.1, r.1))),
      (λ h. (h.0.0, h.1.0, more.1 (h.0.1, h.1.1))),
    )
