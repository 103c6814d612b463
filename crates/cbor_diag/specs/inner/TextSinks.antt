-- The text of an item whose parts come one by one, and the state of the sink that writes it.
use Rattle.std.specs.Prelude.{ℕ, ◌≡◌, if◌then◌else◌, Bool, true, false, List, [], ◌∷◌, ◌++◌, codes, decimal, Option, Some, None, option_to_list}
use Rattle.cbor_head.specs.Prelude.{value_of, values_of, entries_of}
use Rattle.cbor_head.specs.declared.major.Major.TheVariants as majors
use Rattle.cbor_head.specs.declared.major.Major.{Major}
use Rattle.theory_verdicts.specs.Levels.{Level, a_member, a_key, a_value, some_member, some_key, some_value, tagged, ParseState, item_expected, item_full, item_whole}
use Rattle.cbor_parser.specs.Sink.{Reported}
use Rattle.cbor_diag.specs.Text.{text, texts, pair_texts, joined}
use Rattle.cbor_diag.specs.{declared.text_sink.Open.Open, declared.text_sink.TextSink.TextSink, inner.Strings.opening, inner.Strings.content_text}

-- ---- containers

abbrev pub opener : Major → ℕ → List ℕ
opener majors.Array n = codes "["
opener majors.Map n = codes "{"
opener m n = decimal n ++ codes "("

abbrev pub closer : Major → List ℕ
closer majors.Array = codes "]"
closer majors.Map = codes "}"
closer m = codes ")"

abbrev pub an_open : Major → Bool → Open
an_open major is_first = record { major = major; is_first = is_first }

-- none of these texts
abbrev pub are_none : List (List ℕ) → Bool
are_none [] = true
are_none (t ∷ ts) = false

-- the text before a member or a pair, the first one or a later one
abbrev pub comma : Bool → List ℕ
comma is_first = if is_first then [] else codes ", "

-- a text, and after it the text of a container as far as it is complete
abbrev pub text_in : List ℕ → Level → List ℕ
text_in u (a_member w left done) = u ++ (codes "[" ++ joined (texts (values_of done)))
text_in u (some_member done) = u ++ (codes "[" ++ joined (texts (values_of done)))
text_in u (a_key w left done) = u ++ (codes "{" ++ joined (pair_texts (entries_of done)))
text_in u (some_key done) = u ++ (codes "{" ++ joined (pair_texts (entries_of done)))
text_in u (a_value w left done k) =
    let ts = pair_texts (entries_of done) in
    ((u ++ (codes "{" ++ joined ts)) ++ comma (are_none ts)) ++ text (value_of k)
text_in u (some_value done k) =
    let ts = pair_texts (entries_of done) in
    ((u ++ (codes "{" ++ joined ts)) ++ comma (are_none ts)) ++ text (value_of k)
text_in u (tagged w n) = u ++ (decimal n ++ codes "(")

-- the container before its next item
abbrev pub open_of : Level → Open
open_of (a_member w left done) = an_open majors.Array (are_none (texts (values_of done)))
open_of (some_member done) = an_open majors.Array (are_none (texts (values_of done)))
open_of (a_key w left done) = an_open majors.Map (are_none (pair_texts (entries_of done)))
open_of (some_key done) = an_open majors.Map (are_none (pair_texts (entries_of done)))
open_of (tagged w n) = an_open majors.Tag true
open_of v = an_open majors.Map false

-- the container within its next item
abbrev pub entered_of : Level → Open
entered_of (tagged w n) = an_open majors.Tag true
entered_of v = an_open (open_of v).major false

-- the text before its next item
abbrev pub before : Level → List ℕ
before (tagged w n) = []
before (a_value w left done k) = codes ": "
before (some_value done k) = codes ": "
before v = comma (open_of v).is_first

-- ---- all open containers, the innermost first

-- the text before the item that is expected in these
abbrev pub text_to : List Level → List ℕ
text_to [] = []
text_to (v ∷ vs) = text_in (text_to vs) v ++ before v

-- the innermost of them while that item is written, and those around it, the outermost first
abbrev pub inner_in : List Level → Option Open
inner_in [] = None
inner_in (v ∷ vs) = Some (entered_of v)

abbrev pub around_in : List Level → List Open
around_in [] = []
around_in (v ∷ vs) = around_in vs ++ option_to_list (inner_in vs)

-- ---- the state of a sink

-- the sink was given this text, and these containers are open
pub record IsAt (g : TextSink) (t : List ℕ) (o : Option Open) (os : List Open) : Type 0 where
  pub given : g.shown.now.items ++ g.out.now.waiting.items ≡ t
  pub innermost : g.inner ≡ o
  pub around : g.around.items ≡ os

-- the same, and an item of these containers is expected or being written
abbrev pub IsWithin : TextSink → List ℕ → List Level → Type 0
IsWithin g t vs = IsAt g t (inner_in vs) (around_in vs)

-- The state of the sink in a state of the parser. In a full container, its text so far and its end are the text of the item.
abbrev pub text_agrees : TextSink → TextSink → ParseState → Type 0
text_agrees start g (item_expected []) = IsAt g [] None []
text_agrees start g (item_expected (v ∷ vs)) = IsAt g (text_in (text_to vs) v) (Some (open_of v)) (around_in (v ∷ vs))
text_agrees start g (item_full vs s) =
    (t : List ℕ) × (o : Open) × (t ++ closer o.major ≡ text (value_of s))
    × IsAt g (text_to vs ++ t) (Some o) (around_in vs ++ option_to_list (inner_in vs))
text_agrees start g (item_whole s) = IsAt g (text (value_of s)) None []

-- the state of the sink within a string, with this content so far
abbrev pub text_holds : TextSink → TextSink → List Level → Bool → List ℕ → Type 0
text_holds start g vs is_text content = IsWithin g (text_to vs ++ (opening is_text ++ content_text is_text content)) vs

-- the text before an item was put
abbrev pub Reaches : Bool → TextSink → TextSink → Type 0
Reaches is_key old new =
    (start : TextSink) (vs : List Level) → Reported TextSink text_agrees is_key start old (item_expected vs) → IsWithin new (text_to vs) vs
