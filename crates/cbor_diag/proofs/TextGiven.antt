-- A sink that writes the text of the parts that it is given: its state after each part.
use Rattle.std.proofs.Common.{◌≡◌, ℕ, zero, suc, ◌<◌, Bool, true, false, List, [], ◌∷◌, ◌++◌, codes, decimal, Option, Some, None, length, refl, sym, ap, ap₂, ◌∙◌, append_assoc, append-nil, length-append, inl, inr, arith, IsSome, option_to_list}
use Rattle.std.proofs.lemmas.List.{flat_map_more, same_from_push, Concat.flat_map-append}
use Rattle.hex.specs.Hex.{encode_with, lower_digits}
use Rattle.cbor_head.specs.Prelude.{Spelling, Spellings, SpelledEntries, array, a_map, no_spellings, a_spelling, no_entries, entry, value_of, values_of, entries_of, Value}
use Rattle.cbor_head.specs.declared.major.Major.TheVariants as majors
use Rattle.cbor_head.specs.declared.major.Major.{Major}
use Rattle.theory_verdicts.specs.Levels.{Level, IsOpened, a_member, a_value, some_member, some_key, some_value, tagged, item_expected, item_full, settle}
use Rattle.theory_verdicts.{specs.Frame.with_all, specs.Frame.with_entries, specs.Reading.string_value, proofs.Levels.of-opened}
use Rattle.cbor_parser.specs.Sink.{Reported, IsEndedAs, AgreesAsFull, IsContainerFull, Gives, Opens, Ends, BeginsString, GrowsString, EndsString}
use Rattle.cbor_diag.specs.Text.{text, texts, pair_texts, joined, escaped}
use Rattle.cbor_diag.specs.inner.Strings.{opening, content_text, closing, string_text}
use Rattle.cbor_diag.specs.inner.TextSinks.{opener, closer, an_open, are_none, comma, text_in, open_of, entered_of, before, text_to, inner_in, around_in, IsAt, IsWithin, text_agrees, text_holds, Reaches}
use Rattle.cbor_diag.specs.{declared.text_sink.Open.Open, declared.text_sink.TextSink.TextSink, inner.Outbox.HasPut}
use Rattle.cbor_diag.proofs.PieceTexts.{encode-append}

-- ---- what is put

pub opener-other : (m : Major) (n : ℕ) → (m ≡ majors.Array → ⊥) → (m ≡ majors.Map → ⊥) → opener m n ≡ decimal n ++ codes "("
opener-other majors.Array n a b = absurd (a refl)
opener-other majors.Map n a b = absurd (b refl)
opener-other m n a b = refl

pub text-of_string : (t : Bool) (content : List ℕ) → text (string_value t content) ≡ string_text t content
text-of_string true content = refl
text-of_string false content = refl

no-content : (t : Bool) → opening t ≡ opening t ++ content_text t []
unfolding encode_with
no-content true = refl
no-content false = refl

more-content : (t : Bool) (xs ys : List ℕ) → content_text t (xs ++ ys) ≡ content_text t xs ++ content_text t ys
more-content true xs ys = flat_map-append escaped xs ys
more-content false xs ys = encode-append lower_digits xs ys

in-prefix : (u f x y : List ℕ) → (u ++ (f ++ x)) ++ y ≡ u ++ (f ++ (x ++ y))
in-prefix u f x y = simp append_assoc

-- these bytes, and the same containers are open
pub record Writes (old new : TextSink) (bytes : List ℕ) : Type 0 where
  pub put : HasPut (Some old.shown.now.items) (Some new.shown.now.items) old.out.now new.out.now bytes
  pub innermost : new.inner ≡ old.inner
  pub around : new.around.items ≡ old.around.items

more : (old new : TextSink) (x y : List ℕ) → old.shown.now.items ++ old.out.now.waiting.items ≡ x → HasPut (Some old.shown.now.items) (Some new.shown.now.items) old.out.now new.out.now y
    → new.shown.now.items ++ new.out.now.waiting.items ≡ x ++ y
more old new x y given put =
    let had = old.shown.now.items in
    ap (λ (z : List ℕ). z ++ new.out.now.waiting.items) put.appended ∙ append_assoc had put.took new.out.now.waiting.items ∙ ap (λ (z : List ℕ). had ++ z) put.others
    ∙ sym (append_assoc had old.out.now.waiting.items y) ∙ ap (λ (z : List ℕ). z ++ y) given

following : (old new : TextSink) (x y z : List ℕ) (inner : Option Open) (around : List Open) → x ++ y ≡ z → IsAt old x inner around → Writes old new y → IsAt new z inner around
following old new x y z inner around is at w = record {
  given = more old new x y at.given w.put ∙ is;
  innermost = w.innermost ∙ at.innermost;
  around = w.around ∙ at.around;
}

-- ---- after an item

-- one text more
joined-more : (ts : List (List ℕ)) (t : List ℕ) → joined (ts ++ t ∷ []) ≡ (joined ts ++ comma (are_none ts)) ++ t
joined-more [] t = append-nil t
joined-more (s ∷ ts) t = sym (flat_map_more (λ (u : List ℕ). codes ", " ++ u) s ts t) ∙ sym (append_assoc (joined (s ∷ ts)) (codes ", ") t)

texts-more : (ss : Spellings) (s : Spelling) → texts (values_of (with_all ss (a_spelling s no_spellings))) ≡ texts (values_of ss) ++ text (value_of s) ∷ []
texts-more no_spellings s = refl
texts-more (a_spelling t ss) s = ap (λ (ts : List (List ℕ)). text (value_of t) ∷ ts) (texts-more ss s)

pair_texts-more : (es : SpelledEntries) (k v : Spelling) → pair_texts (entries_of (with_entries es (entry k v no_entries))) ≡ pair_texts (entries_of es) ++ (text (value_of k) ++ codes ": " ++ text (value_of v)) ∷ []
pair_texts-more no_entries k v = refl
pair_texts-more (entry j w es) k v = ap (λ (ts : List (List ℕ)). (text (value_of j) ++ codes ": " ++ text (value_of w)) ∷ ts) (pair_texts-more es k v)

some-in : (ts : List (List ℕ)) (t : List ℕ) → are_none (ts ++ t ∷ []) ≡ false
some-in [] t = refl
some-in (s ∷ ts) t = refl

-- a container with these texts, and one more that was written
listed : (g : TextSink) (k : Major) (u f t x : List ℕ) (ts us : List (List ℕ)) (around : List Open) → us ≡ ts ++ t ∷ [] → x ≡ ((u ++ (f ++ joined ts)) ++ comma (are_none ts)) ++ t
    → IsAt g x (Some (an_open k false)) around → IsAt g (u ++ (f ++ joined us)) (Some (an_open k (are_none us))) around
listed g k u f t x ts us around is e at = record {
  given = at.given ∙ e ∙ ap (λ (z : List ℕ). z ++ t) (in-prefix u f (joined ts) (comma (are_none ts))) ∙ in-prefix u f (joined ts ++ comma (are_none ts)) t
      ∙ ap (λ (z : List ℕ). u ++ (f ++ z)) (sym (joined-more ts t) ∙ ap joined (sym is));
  innermost = at.innermost ∙ ap (λ (b : Bool). Some (an_open k b)) (sym (ap are_none is ∙ some-in ts t));
  around = at.around;
}

member-given : (g : TextSink) (u : List ℕ) (done : Spellings) (s : Spelling) (around : List Open) →
    let v = some_member done in
    let more = some_member (with_all done (a_spelling s no_spellings)) in
    IsAt g ((text_in u v ++ before v) ++ text (value_of s)) (Some (entered_of v)) around → IsAt g (text_in u more) (Some (open_of more)) around
member-given g u done s around at = listed g majors.Array u (codes "[") (text (value_of s)) _ (texts (values_of done)) _ around (texts-more done s) refl at

grouped : (x k c v : List ℕ) → ((x ++ k) ++ c) ++ v ≡ x ++ (k ++ c ++ v)
grouped x k c v = simp append_assoc

value-given : (g : TextSink) (u : List ℕ) (done : SpelledEntries) (k s : Spelling) (around : List Open) →
    let v = some_value done k in
    let more = some_key (with_entries done (entry k s no_entries)) in
    IsAt g ((text_in u v ++ before v) ++ text (value_of s)) (Some (entered_of v)) around → IsAt g (text_in u more) (Some (open_of more)) around
value-given g u done k s around at =
    let ts = pair_texts (entries_of done) in
    listed g majors.Map u (codes "{") (text (value_of k) ++ codes ": " ++ text (value_of s)) _ ts _ around (pair_texts-more done k s)
    (grouped ((u ++ (codes "{" ++ joined ts)) ++ comma (are_none ts)) (text (value_of k)) (codes ": ") (text (value_of s))) at

pub settles : (start g : TextSink) (vs : List Level) (s : Spelling) → IsWithin g (text_to vs ++ text (value_of s)) vs → text_agrees start g (settle vs s)
settles start g (a_member w zero done ∷ vs) s at = (_, _, refl, member-given g (text_to vs) done s _ at)
settles start g (a_member w (suc left) done ∷ vs) s at = member-given g (text_to vs) done s _ at
settles start g (some_member done ∷ vs) s at = member-given g (text_to vs) done s _ at
settles start g (a_value w zero done k ∷ vs) s at = (_, _, refl, value-given g (text_to vs) done k s _ at)
settles start g (a_value w (suc left) done k ∷ vs) s at = value-given g (text_to vs) done k s _ at
settles start g (some_value done k ∷ vs) s at = value-given g (text_to vs) done k s _ at
settles start g (tagged w n ∷ vs) s at =
    let u = text_to vs in
    let prefix = decimal n ++ codes "(" in
    let x = text (value_of s) in
    let is : ((u ++ prefix) ++ []) ++ x ≡ u ++ (prefix ++ x) = ap (λ (z : List ℕ). z ++ x) (append-nil (u ++ prefix)) ∙ append_assoc u prefix x in
    (prefix ++ x, an_open majors.Tag true, refl, record { given = at.given ∙ is; innermost = at.innermost; around = at.around })
settles start g _ s at = at

pub given : (k : Bool) (v : Value) (y : List ℕ) (old mid new : TextSink) → Reaches k old mid → text v ≡ y → Writes mid new y → Gives TextSink text_agrees k v old new
given k v y old mid new reaches is wrote start d vs s reported done e =
    settles start new vs s (following mid new (text_to vs) y _ _ _ (ap (λ (z : List ℕ). text_to vs ++ z) (sym is ∙ ap text (sym e))) (reaches start vs reported) wrote)

-- ---- strings in chunks

pub string-begun : (k t : Bool) (old mid new : TextSink) → Reaches k old mid → Writes mid new (opening t) → BeginsString TextSink text_agrees text_holds k t old new
string-begun k t old mid new reaches wrote start vs reported =
    following mid new (text_to vs) (opening t) _ _ _ (ap (λ (y : List ℕ). text_to vs ++ y) (no-content t)) (reaches start vs reported) wrote

pub string-grown : (k t : Bool) (x : List ℕ) (old new : TextSink) → Writes old new (content_text t x) → GrowsString TextSink text_holds k t x old new
string-grown k t x old new wrote start vs content at reported =
    let grown = in-prefix (text_to vs) (opening t) (content_text t content) (content_text t x) in
    following old new _ (content_text t x) _ _ _ (grown ∙ ap (λ (y : List ℕ). text_to vs ++ (opening t ++ y)) (sym (more-content t content x))) at wrote

pub string-ended : (k t : Bool) (old new : TextSink) → Writes old new (closing t) → EndsString TextSink text_agrees text_holds k t old new
string-ended k t old new wrote start d vs content s at reported done e =
    let u = text_to vs in
    let whole = opening t ++ content_text t content in
    let is : string_text t content ≡ text (value_of s) = sym (text-of_string t content) ∙ ap text (sym e) in
    settles start new vs s (following old new (u ++ whole) (closing t) _ _ _ (append_assoc u whole (closing t) ∙ ap (λ (y : List ℕ). u ++ y) is) at wrote)

-- ---- containers

level-opened : (u : List ℕ) (m : Major) (i : ℕ) (v : Level) → IsOpened m i v → (u ++ opener m i ≡ text_in u v) × (an_open m true ≡ open_of v)
level-opened u = of-opened (λ m i v. (u ++ opener m i ≡ text_in u v) × (an_open m true ≡ open_of v)) (λ w left i. (refl, refl)) (λ i. (refl, refl)) (λ w left i. (refl, refl)) (λ i. (refl, refl)) (λ w i. (refl, refl))

pub opened : (k : Bool) (m : Major) (i : ℕ) (old mid new : TextSink) → Reaches k old mid → HasPut (Some mid.shown.now.items) (Some new.shown.now.items) mid.out.now new.out.now (opener m i)
    → new.inner ≡ Some (an_open m true) → new.around.items ≡ mid.around.items ++ option_to_list mid.inner → Opens TextSink text_agrees k m i old new
opened k m i old mid new reaches put inner around start vs v reported is =
    let at = reaches start vs reported in
    let same = level-opened (text_to vs) m i v is in
    record {
      given = more mid new (text_to vs) (opener m i) at.given put ∙ same.0;
      innermost = inner ∙ ap Some same.1;
      around = around ∙ ap₂ (λ (os : List Open) (o : Option Open). os ++ option_to_list o) at.around at.innermost;
    }

indefinite : (start g : TextSink) (vs : List Level) (v : Level) (s : Spelling) → IsEndedAs v s → text_agrees start g (item_expected (v ∷ vs)) → text_agrees start g (item_full vs s)
indefinite start g vs (some_member done) (array w ss) ended at = (_, _, ap (λ (x : Spellings). text (value_of (array w x))) (sym ended), at)
indefinite start g vs (some_key done) (a_map w es) ended at = (_, _, ap (λ (x : SpelledEntries). text (value_of (a_map w x))) (sym ended), at)
indefinite start g vs v s ended at = absurd ended

full-at : (k : Bool) (d : ℕ) (start g : TextSink) (vs : List Level) (s : Spelling) → AgreesAsFull TextSink (Reported TextSink text_agrees k) d start g vs s → text_agrees start g (item_full vs s)
full-at k d start g vs s (inl at) = at.0
full-at k d start g vs s (inr (v, ended, levels, at)) = indefinite start g vs v s ended at.0

pub some-open : (t k : Bool) (g : TextSink) → IsContainerFull TextSink text_agrees t k g → ((o : Open) → g.inner ≡ Some o → ⊥) → ⊥
some-open t k g (start, d, vs, s, fills, full) none = let at = full-at k d start g vs s full in none at.1 at.3.innermost

-- then the container around it is the innermost, if there is one
popped : (vs : List Level) (around new : List Open) (r : Option Open) → around ≡ around_in vs ++ option_to_list (inner_in vs) → around ≡ new ++ option_to_list r → (0 < length around → IsSome r) → (r ≡ inner_in vs) × (new ≡ around_in vs)
popped [] around new None are is some = (refl, sym (append-nil new) ∙ sym is ∙ are)
popped [] around new (Some x) are is some = let n = ap length (sym is ∙ are) in absurd (omega (arith, n, length-append new (x ∷ [])))
popped (v ∷ vs) around new None are is some = let n = ap length are in absurd (cc (some (omega (arith, n, length-append {A = Open}))))
popped (v ∷ vs) around new (Some x) are is some = let e = same_from_push new _ x _ (sym is ∙ are) in (ap Some e.1, e.0)

pub ended : (k : Bool) (o : Open) (old new : TextSink) → old.inner ≡ Some o → HasPut (Some old.shown.now.items) (Some new.shown.now.items) old.out.now new.out.now (closer o.major)
    → old.around.items ≡ new.around.items ++ option_to_list new.inner → (0 < length old.around.items → IsSome new.inner) → Ends TextSink text_agrees true k old new
ended k o old new inner put around some start d vs s fills stood =
    let full = full-at k d start old vs s stood in
    let t = full.0 in
    let at = full.3 in
    let same : o ≡ full.1 = cc (inner, at.innermost) in
    let top = popped vs old.around.items new.around.items new.inner at.around around some in (
      fills.clean refl,
      settles start new vs s (record {
        given = more old new (text_to vs ++ t) (closer o.major) at.given put ∙ append_assoc (text_to vs) t (closer o.major)
            ∙ ap (λ (z : List ℕ). text_to vs ++ z) (ap (λ (p : Open). t ++ closer p.major) same ∙ full.2);
        innermost = top.0;
        around = top.1;
      }),
    )
