-- A builder of views that is given the parts of an item: its position after each.
use Rattle.std.proofs.Common.{◌≡◌, ℕ, Bool, true, false, List, [], ◌∷◌, ◌++◌, refl, sym, ap, ap₂, ◌∙◌, subst, inl, inr, IsUtf8}
use Rattle.std.proofs.lemmas.Str.{IsUtf8-append}
use Rattle.cbor_head.specs.Prelude.{Spelling, Spellings, SpelledEntries, array, a_map, value_of, Value}
use Rattle.cbor_head.specs.declared.major.Major.{Major}
use Rattle.cbor_builder.specs.declared.repeat.Repeat.{Repeat}
use Rattle.cbor_item.specs.OpenValues as parts
use Rattle.cbor_item.specs.OpenValues.{OpenValue, an_array, give, close, TakesValue, MayEnd}
use Rattle.cbor_item.specs.ViewValue.{open_levels}
use Rattle.theory_verdicts.specs.Levels.{Level, IsOpened, some_member, some_key, item_expected}
use Rattle.theory_verdicts.{specs.Reading.string_value, proofs.Levels.of-opened}
use Rattle.cbor_parser.specs.Sink.{FindsNoRepeat, FindsRepeat, Reported, IsEndedAs, AgreesAsFull, IsItemExpected, IsChunkExpected, IsContainerFull, Gives, Opens, Ends, Repeats, BeginsString, GrowsString, EndsString}
use Rattle.cbor_tree_reader.specs.TreeValues.{member_values, pair_values, level_value, level_values, full_value, IsContainer}
use Rattle.cbor_tree_reader.proofs.TreeValues.{full-ends, levels-take, may-end, settles-right, values-given, values-ended}
use Rattle.cbor_reader.specs.{inner.KeyBytes.keys_agree, inner.KeyBytes.keys_hold, declared.key_bytes.KeyBytes.KeyBytes, declared.view_sink.ViewSink.ViewSink}
use Rattle.cbor_reader.specs.inner.ViewSinks.{view_agrees, view_holds}

-- ---- an item

pub expected : (k : Bool) (g : ViewSink) → IsItemExpected ViewSink view_agrees k g → IsItemExpected KeyBytes keys_agree k g.keys
expected k g (start, d, ls, space, (at, reported)) = (start.keys, d, ls, space, (at.0, reported))

pub takes : (k : Bool) (g : ViewSink) → IsItemExpected ViewSink view_agrees k g → TakesValue (open_levels g.views)
takes k g (start, d, ls, space, (at, reported)) = subst TakesValue (sym at.2) (levels-take ls)

with-item : (v : Value) (os : List OpenValue) (ls : List Level) (s : Spelling) → os ≡ level_values ls → value_of s ≡ v → give v os ≡ give (value_of s) (level_values ls)
with-item v os ls s are is = ap₂ give (sym is) are

pub given : (k : Bool) (v : Value) (old new : ViewSink) → Gives KeyBytes keys_agree k v old.keys new.keys → open_levels new.views ≡ give v (open_levels old.views) → Gives ViewSink view_agrees k v old new
given k v old new keys views start d ls s (at, reported) done e =
    (keys start.keys d ls s (at.0, reported) done e, settles-right ls s, views ∙ with-item v (open_levels old.views) ls s at.2 e ∙ values-given ls s)

-- ---- containers

level-opened : (m : Major) (n : ℕ) (l : Level) → IsOpened m n l → level_value l ≡ parts.opened m n
level-opened = of-opened (λ m n l. level_value l ≡ parts.opened m n) (λ w left n. refl) (λ n. refl) (λ w left n. refl) (λ n. refl) (λ w n. refl)

pub opened : (k : Bool) (m : Major) (n : ℕ) (old new : ViewSink) → Opens KeyBytes keys_agree k m n old.keys new.keys → open_levels new.views ≡ parts.opened m n ∷ open_levels old.views → Opens ViewSink view_agrees k m n old new
opened k m n old new keys views start ls l (at, reported) e =
    (keys start.keys ls l (at.0, reported) e, tt, views ∙ ap₂ (λ (c : OpenValue) (os : List OpenValue). c ∷ os) (sym (level-opened m n l e)) at.2)

ended-as : (l : Level) (s : Spelling) → IsEndedAs l s → (level_value l ≡ full_value s) × IsContainer s
ended-as (some_member done) (array w ss) e = (ap (λ (x : Spellings). an_array (member_values x)) (sym e), tt)
ended-as (some_key done) (a_map w es) e = (ap (λ (x : SpelledEntries). parts.a_map (pair_values x)) (sym e), tt)
ended-as l s e = absurd e

keys-full : (k : Bool) (d : ℕ) (start g : ViewSink) (ls : List Level) (s : Spelling) → AgreesAsFull ViewSink (Reported ViewSink view_agrees k) d start g ls s → AgreesAsFull KeyBytes (Reported KeyBytes keys_agree k) d start.keys g.keys ls s
keys-full k d start g ls s (inl (at, reported)) = inl (at.0, reported)
keys-full k d start g ls s (inr (l, ended, levels, (at, reported))) = inr (l, ended, levels, (at.0, reported))

views-full : (k : Bool) (d : ℕ) (start g : ViewSink) (ls : List Level) (s : Spelling) → AgreesAsFull ViewSink (Reported ViewSink view_agrees k) d start g ls s → (open_levels g.views ≡ full_value s ∷ level_values ls) × IsContainer s
views-full k d start g ls s (inl (at, reported)) = (at.2, at.1)
views-full k d start g ls s (inr (l, ended, levels, (at, reported))) = let e = ended-as l s ended in (at.2 ∙ ap (λ (c : OpenValue). c ∷ level_values ls) e.0, e.1)

pub keys-end : (k : Bool) (g : ViewSink) → IsContainerFull ViewSink view_agrees false k g → IsContainerFull KeyBytes keys_agree false k g.keys
keys-end k g (start, d, ls, s, fills, full) = (start.keys, d, ls, s, fills, keys-full k d start g ls s full)

pub views-end : (k : Bool) (g : ViewSink) → IsContainerFull ViewSink view_agrees false k g → MayEnd (open_levels g.views)
views-end k g (start, d, ls, s, fills, full) = let f = views-full k d start g ls s full in subst MayEnd (sym f.0) (may-end (full_value s) ls (full-ends s f.1))

pub ended : (k : Bool) (old new : ViewSink) → Ends KeyBytes keys_agree false k old.keys new.keys → open_levels new.views ≡ close (open_levels old.views) → Ends ViewSink view_agrees false k old new
ended k old new keys views start d ls s fills full =
    let e = keys start.keys d ls s fills (keys-full k d start old ls s full) in
    (e.0, (e.1, settles-right ls s, views ∙ ap close (views-full k d start old ls s full).0 ∙ values-ended ls s))

-- two keys are equal
pub repeats : (k : Bool) (g : ViewSink) (repeat : Repeat) → Repeats KeyBytes keys_agree false k g.keys repeat → Repeats ViewSink view_agrees false k g repeat
repeats k g repeat keys start d ls s fills full = keys start.keys d ls s fills (keys-full k d start g ls s full)

-- ---- strings in chunks

pub whole-expected : (k t : Bool) (g : ViewSink) → IsChunkExpected ViewSink view_holds k t g → IsItemExpected ViewSink view_agrees k g
whole-expected k t g (start, d, ls, content, space, at, reported) = (start, d, ls, space, ((at.0, tt, at.1), reported))

pub utf8-expected : (k t : Bool) (g : ViewSink) → IsChunkExpected ViewSink view_holds k t g → t ≡ true → IsUtf8 g.joined
utf8-expected k t g (start, d, ls, content, space, at, reported) e = subst IsUtf8 (sym at.2) (at.3 e)

pub begun : (k t : Bool) (old new : ViewSink) → new.keys ≡ old.keys → new.views ≡ old.views → new.joined ≡ [] → BeginsString ViewSink view_agrees view_holds k t old new
begun k t old new same views joined start ls (at, reported) = (
  subst (λ (g : KeyBytes). keys_agree start.keys g (item_expected ls)) (sym same) at.0,
  ap open_levels views ∙ at.2,
  joined,
  λ e. ([], (refl, refl)),
)

pub grown : (k t : Bool) (x : List ℕ) (old new : ViewSink) → (t ≡ true → IsUtf8 x) → new.keys ≡ old.keys → new.views ≡ old.views → new.joined ≡ old.joined ++ x
    → GrowsString ViewSink view_holds k t x old new
grown k t x old new utf8 same views joined start ls content at reported = (
  subst (λ (g : KeyBytes). keys_agree start.keys g (item_expected ls)) (sym same) at.0,
  ap open_levels views ∙ at.1,
  joined ∙ ap (λ (c : List ℕ). c ++ x) at.2,
  λ e. IsUtf8-append content x (at.3 e) (utf8 e),
)

pub string-ended : (k t : Bool) (old new : ViewSink) → Gives KeyBytes keys_agree k (string_value t old.joined) old.keys new.keys → open_levels new.views ≡ give (string_value t old.joined) (open_levels old.views)
    → EndsString ViewSink view_agrees view_holds k t old new
string-ended k t old new keys views start d ls content s at reported done e = (
  keys start.keys d ls s (at.0, reported) done (e ∙ ap (string_value t) (sym at.2)),
  settles-right ls s,
  views ∙ ap (λ (c : List ℕ). give (string_value t c) (open_levels old.views)) at.2 ∙ with-item (string_value t content) (open_levels old.views) ls s at.1 e ∙ values-given ls s,
)

-- ---- keys

pub no-repeat : (g : ViewSink) → FindsNoRepeat KeyBytes keys_agree keys_hold g.keys → FindsNoRepeat ViewSink view_agrees view_holds g
no-repeat g h start ls (inl at) = h start.keys ls (inl at.0)
no-repeat g h start ls (inr (is_text, content, at)) = h start.keys ls (inl at.0)

pub repeat-found : (g : ViewSink) (repeat : Repeat) → FindsRepeat KeyBytes keys_agree keys_hold g.keys repeat → FindsRepeat ViewSink view_agrees view_holds g repeat
repeat-found g repeat h start ls (inl at) = h start.keys ls (inl at.0)
repeat-found g repeat h start ls (inr (is_text, content, at)) = h start.keys ls (inl at.0)
