-- The open map with a key that is the same as an earlier one, and the verdict.
use Rattle.std.proofs.Common.{Some, ◌≡◌, ℕ, suc, ◌+◌, ◌-◌, ◌^◌, ◌<◌, ◌≤◌, true, List, [], ◌∷◌, ◌++◌, length, take, refl, sym, ap, ◌∙◌, subst, inl, inr, arith, append_assoc, ◌⊎◌, length-append}
use Rattle.cbor_head.specs.Prelude.{IsBeginning, plain, complaint, Bounds, Spelling, a_map, spell, IsSpelled, depth, IsVerdict, refused, refusal}
use Rattle.cbor_head.specs.declared.{order.KeyOrder.KeyOrder, reason.Reason.TheVariants.RepeatedKey}
use Rattle.cbor_builder.specs.Built.{keys_so_far, IsFirstRepeat, AreOpenKeysDifferent, IsRepeatReported, open_maps}
use Rattle.cbor_builder.specs.declared.repeat.Repeat.{Repeat}
use Rattle.theory_verdicts.specs.Given.{level_open, opens, full_open}
use Rattle.theory_verdicts.specs.Levels.{Level, a_member, some_member, tagged, level_bytes, AreLevels, bytes_before}
use Rattle.theory_verdicts.{specs.Kinds.KeepsToKinds, proofs.KindFrames.keeps_prefix, proofs.LevelFrames.begins_so_far, proofs.LevelFrames.begins_before}
use Rattle.theory_verdicts.{specs.Judged.IsJudged, proofs.CleanParts.clean-prefix, proofs.PathVerdict.complaint_stops}
use Rattle.cbor_parser.specs.Sink.{is_map as its_kind, IsReportedIn, IsReportedFull}
use Rattle.cbor_parser.specs.inner.OpenMaps.{HasTakenPairs, is_map_level, map_levels}
use Rattle.cbor_parser.proofs.ReportedKeys.{IsKeyIn, key_in_level, key_in_map}
use Rattle.cbor_parser.specs.inner.{Parser.BeginsTaken, OpenContainer.opener, OpenContainer.full_opener, Repeated.IsKeyReported}
use Rattle.cbor_parser.proofs.{LevelPaths.repeat_of_whole, Repeats.repeated_by_bytes}

-- ---- the maps among open containers

-- n of them are maps
maps_open : (o : KeyOrder) (ls : List Level) → open_maps (opens o ls) ≡ map_levels ls
maps_open o [] = refl
maps_open o (a_member w left done ∷ ls) = maps_open o ls
maps_open o (some_member done ∷ ls) = maps_open o ls
maps_open o (tagged w n ∷ ls) = maps_open o ls
maps_open o (_ ∷ ls) = ap suc (maps_open o ls)

-- what has equal keys is a map
is_map : (o : KeyOrder) (l : Level) (pair : ℕ) → IsFirstRepeat (keys_so_far (level_open o l)) pair → is_map_level l ≡ true
is_map o (a_member w left done) pair h = absurd (omega (arith, h.0.2))
is_map o (some_member done) pair h = absurd (omega (arith, h.0.2))
is_map o (tagged w n) pair h = absurd (omega (arith, h.0.2))
is_map o _ pair h = refl

-- ---- the key

module _ (limits : Bounds) (input : List ℕ) (small : length input ≤ 2 ^ 62) where
  -- of a map within these
  key_reported : (o : KeyOrder) (outer : List Level) (opening bytes : List ℕ) (pair : ℕ) (rest : List ℕ) → IsKeyIn o (limits.depth - suc (length outer)) opening bytes pair → length outer < limits.depth → AreLevels limits.depth outer → AreOpenKeysDifferent (opens o outer)
      → input ≡ (bytes_before outer ++ bytes) ++ rest → IsBeginning limits.depth (bytes_before outer ++ bytes) → KeepsToKinds limits plain (bytes_before outer ++ bytes)
      → IsKeyReported limits input (length input - length (bytes_before outer ++ opening)) pair
  key_reported o outer opening bytes pair rest k space levels apart e begins keeps =
      let before = bytes_before outer in
      let here = level_bytes k.level in
      let all : before ++ bytes ≡ ((before ++ here) ++ spell k.key) ++ k.more = ap (λ (x : List ℕ). before ++ x) k.bytes_are ∙ sym (append_assoc before here (spell k.key ++ k.more)) ∙ sym (append_assoc (before ++ here) (spell k.key) k.more) in
      record {
        level = k.level;
        outer = outer;
        levels = (space, k.holds, levels);
        es = k.es;
        is_after = k.is_after;
        count = k.count;
        key = k.key;
        taken = k.taken;
        order = o;
        held = k.held;
        apart = (k.apart, apart);
        more = k.more ++ rest;
        bytes = e ∙ ap (λ (x : List ℕ). x ++ rest) all ∙ append_assoc ((before ++ here) ++ spell k.key) k.more rest ∙ append_assoc (before ++ here) (spell k.key) (k.more ++ rest);
        small = small;
        keeps = keeps_prefix limits plain ((before ++ here) ++ spell k.key) k.more (subst (IsBeginning limits.depth) all begins) (subst (KeepsToKinds limits plain) all keeps);
        begins = ap (λ (x : List ℕ). length input - length (before ++ x)) (sym k.begins);
      }

  -- one of these open containers is the map whose key is reported
  pub record IsReportedWithin (ls : List Level) (outside pair : ℕ) : Type 0 where
    pub inner : List Level
    pub level : Level
    pub outer : List Level
    pub splits : ls ≡ inner ++ level ∷ outer
    pub is_map : is_map_level level ≡ true
    pub outside_is : outside ≡ map_levels outer
    pub key : IsKeyReported limits input (length input - length (bytes_before outer ++ opener level)) pair

  -- where an item is expected
  reported_here : (ls : List Level) (rest : List ℕ) (o : KeyOrder) (outside pair : ℕ) → AreLevels limits.depth ls → input ≡ bytes_before ls ++ rest → KeepsToKinds limits plain (bytes_before ls) → IsRepeatReported (opens o ls) outside pair → IsReportedWithin ls outside pair
  reported_here [] rest o outside pair levels e keeps (inl x) = absurd x
  reported_here [] rest o outside pair levels e keeps (inr x) = absurd (omega (arith, x.2.0.2))
  reported_here (l ∷ ls) rest o outside pair levels e keeps (inl x) =
      let kept = keeps_prefix limits plain (bytes_before ls) (level_bytes l) (begins_before limits.depth (l ∷ ls) levels) keeps in
      let r = reported_here ls (level_bytes l ++ rest) o outside pair levels.2 (e ∙ append_assoc (bytes_before ls) (level_bytes l) rest) kept x in
      record { inner = l ∷ r.inner; level = r.level; outer = r.outer; splits = ap (λ (ms : List Level). l ∷ ms) r.splits; is_map = r.is_map; outside_is = r.outside_is; key = r.key }
  reported_here (l ∷ ls) rest o outside pair levels e keeps (inr (apart, is, first)) = record {
    inner = [];
    level = l;
    outer = ls;
    splits = refl;
    is_map = is_map o l pair first;
    outside_is = is ∙ maps_open o ls;
    key = key_reported o ls (opener l) (level_bytes l) pair rest (key_in_level o (limits.depth - suc (length ls)) l pair levels.1 first) levels.0 levels.2 apart e (begins_before limits.depth (l ∷ ls) levels) keeps;
  }

  pub reported_within : (ls : List Level) (rest : List ℕ) (repeat : Repeat) → AreLevels limits.depth ls → input ≡ bytes_before ls ++ rest → KeepsToKinds limits plain (bytes_before ls) → IsReportedIn ls repeat → IsReportedWithin ls repeat.outside repeat.pair
  reported_within ls rest repeat levels e keeps reported = reported_here ls rest reported.0 repeat.outside repeat.pair levels e keeps reported.1

  -- this container, which is whole within these, is the map
  pub record IsReportedWhole (ls : List Level) (s : Spelling) (outside pair : ℕ) : Type 0 where
    pub is_map : its_kind s ≡ true
    pub outside_is : outside ≡ map_levels ls
    pub key : IsKeyReported limits input (length input - length (bytes_before ls ++ full_opener s)) pair

  no_keys : (pair : ℕ) → IsFirstRepeat [] pair → {A : Type 0} → A
  no_keys pair h = absurd (omega (arith, h.0.2))

  whole_reported : (ls : List Level) (s : Spelling) (rest : List ℕ) (o : KeyOrder) (outside pair : ℕ) → AreLevels limits.depth ls → IsSpelled s → depth s ≤ limits.depth - length ls → HasTakenPairs (limits.depth - suc (length ls)) s
      → input ≡ (bytes_before ls ++ spell s) ++ rest → KeepsToKinds limits plain (bytes_before ls ++ spell s) → AreOpenKeysDifferent (opens o ls) → outside ≡ open_maps (opens o ls) → IsFirstRepeat (keys_so_far (full_open o s)) pair → IsReportedWhole ls s outside pair
  whole_reported ls (a_map w es) rest o outside pair levels h l taken e keeps apart is first = record {
    is_map = refl;
    outside_is = is ∙ maps_open o ls;
    key = key_reported o ls _ (spell (a_map w es)) pair rest (key_in_map o (limits.depth - suc (length ls)) w es pair h.0 taken first) (omega (arith, l)) levels apart e (begins_so_far limits.depth ls (a_map w es) levels h l) keeps;
  }
  whole_reported ls _ rest o outside pair levels h l taken e keeps apart is first = no_keys pair first

  pub reported_full : (ls : List Level) (s : Spelling) (rest : List ℕ) (repeat : Repeat) → AreLevels limits.depth ls → IsSpelled s → depth s ≤ limits.depth - length ls → HasTakenPairs (limits.depth - suc (length ls)) s
      → input ≡ (bytes_before ls ++ spell s) ++ rest → KeepsToKinds limits plain (bytes_before ls ++ spell s) → IsReportedFull ls s repeat
      → IsReportedWhole ls s repeat.outside repeat.pair ⊎ IsReportedWithin ls repeat.outside repeat.pair
  reported_full ls s rest repeat levels h l taken e keeps (o, inl x) =
      inr (reported_here ls (spell s ++ rest) o repeat.outside repeat.pair levels (e ∙ append_assoc (bytes_before ls) (spell s) rest) (keeps_prefix limits plain (bytes_before ls) (spell s) (begins_so_far limits.depth ls s levels h l) keeps) x)
  reported_full ls s rest repeat levels h l taken e keeps (o, inr (apart, is, first)) = inl (whole_reported ls s rest o repeat.outside repeat.pair levels h l taken e keeps apart is first)

-- ---- the verdict

module _ (limits : Bounds) (input : List ℕ) (following pair : ℕ) (h : IsKeyReported limits input following pair) where
  abbrev before : List ℕ
  before = bytes_before (h.level ∷ h.outer)

  pub reported_judged : IsJudged plain 0 limits.depth (before ++ spell h.key) (Some (complaint (length before + length (spell h.key)) (length before) RepeatedKey))
  reported_judged =
      let small = h.small in
      let size = ap length h.bytes in
      let parts = length-append before (spell h.key ++ h.more) in
      let item_after_key = length-append (spell h.key) h.more in
      let early : length before < 2 ^ 63 = omega (arith, small, size, parts) in
      let key_short : length (spell h.key) < 2 ^ 63 = omega (arith, small, size, parts, item_after_key) in
      let repeated = repeated_by_bytes h.order limits.depth (limits.depth - suc (length h.outer)) h.outer h.level h.es h.is_after h.levels early h.key h.taken key_short h.held in
      repeat_of_whole h.order limits.depth h.outer h.level h.es h.is_after h.levels early h.apart h.key h.taken repeated

  -- then no item without complaint is at the start
  pub never_known : BeginsTaken limits.depth input → ⊥
  never_known (item, more, taken, prefix) =
      let same : limits.depth ≡ limits.depth - 0 = omega arith in
      let j = subst (λ (d : ℕ). IsJudged plain 0 d (before ++ spell h.key) (Some (complaint (length before + length (spell h.key)) (length before) RepeatedKey))) same reported_judged in
      clean-prefix limits.depth [] j.item item (before ++ spell h.key) j.rest h.more more tt j.is taken (append_assoc before (spell h.key) h.more ∙ sym h.bytes ∙ prefix) _ j.finding.holds j.finding.ends

pub reported_verdict : (limits : Bounds) (input : List ℕ) (following pair : ℕ) (bytes : List ℕ) → (h : IsKeyReported limits input following pair) → input ≡ take limits.bytes bytes
    → IsVerdict limits plain bytes (refused (refusal RepeatedKey (length (bytes_before (h.level ∷ h.outer))) (length (bytes_before (h.level ∷ h.outer)) + length (spell h.key))))
reported_verdict limits input following pair bytes h within =
    let before = bytes_before (h.level ∷ h.outer) in
    complaint_stops plain limits bytes _ (record {
      p = before ++ spell h.key;
      rest = h.more;
      splits = sym within ∙ h.bytes ∙ sym (append_assoc before (spell h.key) h.more);
      complaint = complaint (length before + length (spell h.key)) (length before) RepeatedKey;
      judged = reported_judged limits input following pair h;
      keeps = h.keeps;
      is = refl;
    })
