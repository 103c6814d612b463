-- The sink that finds equal keys is given a string in chunks: its position after each.
use Rattle.std.proofs.Common.{◌≡◌, ℕ, Bool, true, false, List, [], ◌∷◌, ◌++◌, length, refl, sym, ap, ap₂, ◌∙◌, subst, arith}
use Rattle.cbor_head.specs.Prelude.{canonical, shortest_head, Spelling, value_of}
use Rattle.cbor_head.specs.declared.order.KeyOrder.{KeyOrder}
use Rattle.theory_values.specs.Parts.{Open, a_string, give, extended, close, opened}
use Rattle.cbor_builder.specs.Built.{Built, built, IsInString, TakesPart}
use Rattle.theory_verdicts.specs.{Levels.Level, Levels.settle, Reading.string_major, Reading.string_value}
use Rattle.cbor_parser.specs.Sink.{key_expected, Completes, BeginsString, IsChunkExpected, GrowsString, EndsString}
use Rattle.cbor_parser.proofs.CanonGiven.{string-bytes, string-opens}
use Rattle.cbor_reader.proofs.KeysGiven.{agrees-by, with-kept, with-left}
use Rattle.cbor_reader.proofs.KeysKept.{Some, in_key-is, item-kept, some-kept, value-takes}
use Rattle.cbor_reader.specs.inner.KeyBytes.{in_key, kept, kept_all, inside, is_kept, after_item, with_item, keys_agree, keys_hold}
use Rattle.cbor_reader.specs.declared.key_bytes.KeyBytes.{KeyBytes}

-- whether it is stored, in these containers
here : (k : Bool) (g : KeyBytes) (ls : List Level) → g.inside ≡ inside ls → k ≡ key_expected ls → in_key ls ≡ is_kept g.inside k
here k g ls e f = in_key-is ls ∙ (λ i. is_kept (sym e i) (sym f i))

-- the content so far, if it is stored
abbrev content_in : KeyOrder → Bool → List ℕ → List Level → Bool → List Open
content_in o t content ls b = kept b (a_string (string_major t) content) (kept_all o ls)

holds-by : (t : Bool) (content : List ℕ) (old new start : KeyBytes) (ls : List Level) (b : Bool) → in_key ls ≡ b → new.builder.order ≡ old.builder.order → new.builder.open_levels ≡ content_in old.builder.order t content ls b → new.inside ≡ inside ls
    → keys_hold start new ls t content
holds-by t content old new start ls b is same agrees count =
    (agrees ∙ ap (content_in old.builder.order t content ls) (sym is) ∙ ap (λ (o : KeyOrder). content_in o t content ls (in_key ls)) (sym same), count)

-- ---- its first chunk is expected

pub begins-kept : (k t : Bool) (old new : KeyBytes) → is_kept old.inside k ≡ true → new.builder ≡ built old.builder.order (opened (string_major t) 0 ∷ old.builder.open_levels) → new.inside ≡ old.inside → BeginsString KeyBytes keys_agree keys_hold k t old new
begins-kept k t old new keeps is stays start ls (at, reported) =
    holds-by t [] old new start ls true (here k old ls at.1 reported ∙ keeps) (ap (λ (x : Built). x.order) is)
    (ap (λ (x : Built). x.open_levels) is ∙ ap₂ (λ (c : Open) (os : List Open). c ∷ os) (string-opens t) at.0) (stays ∙ at.1)

pub begins-left : (k t : Bool) (old : KeyBytes) → is_kept old.inside k ≡ false → BeginsString KeyBytes keys_agree keys_hold k t old old
begins-left k t old lacks start ls (at, reported) = holds-by t [] old old start ls false (here k old ls at.1 reported ∙ lacks) refl at.0 at.1

-- ---- a chunk

within-string : (t : Bool) (content : List ℕ) (os : List Open) → Some os → IsInString (a_string (string_major t) content ∷ os)
within-string t content os (c, cs, e) = subst (λ (xs : List Open). IsInString (a_string (string_major t) content ∷ xs)) (sym e) tt

pub in-string : (k t : Bool) (g : KeyBytes) → is_kept g.inside k ≡ true → IsChunkExpected KeyBytes keys_hold k t g → IsInString g.builder.open_levels
in-string k t g keeps (start, d, ls, content, space, at, reported) =
    subst IsInString (sym (at.0 ∙ ap (content_in g.builder.order t content ls) (here k g ls at.1 reported ∙ keeps))) (within-string t content (kept_all g.builder.order ls) (some-kept g.builder.order ls))

pub grows-kept : (k t : Bool) (x : List ℕ) (old new : KeyBytes) → is_kept old.inside k ≡ true → new.builder ≡ built old.builder.order (extended x old.builder.open_levels) → new.inside ≡ old.inside → GrowsString KeyBytes keys_hold k t x old new
grows-kept k t x old new keeps is stays start ls content at reported =
    let kind = here k old ls at.1 reported ∙ keeps in
    holds-by t (content ++ x) old new start ls true kind (ap (λ (y : Built). y.order) is)
    (ap (λ (y : Built). y.open_levels) is ∙ ap (extended x) (at.0 ∙ ap (content_in old.builder.order t content ls) kind)) (stays ∙ at.1)

pub grows-left : (k t : Bool) (x : List ℕ) (old : KeyBytes) → is_kept old.inside k ≡ false → GrowsString KeyBytes keys_hold k t x old old
grows-left k t x old lacks start ls content at reported =
    let kind = here k old ls at.1 reported ∙ lacks in
    holds-by t (content ++ x) old old start ls false kind refl (at.0 ∙ ap (content_in old.builder.order t content ls) kind) at.1

-- ---- its end

-- after a key
pub string-takes : (k t : Bool) (old mid : KeyBytes) → is_kept old.inside k ≡ true → IsChunkExpected KeyBytes keys_hold k t old → mid.builder ≡ built old.builder.order (close old.builder.order old.builder.open_levels) → old.inside ≡ 0 → TakesPart mid.builder.open_levels
string-takes k t old mid keeps (start, d, ls, content, space, at, reported) is none =
    let o = old.builder.order in
    let kind = here k old ls at.1 reported ∙ keeps in
    subst TakesPart (sym (ap (λ (x : Built). x.open_levels) is ∙ ap (close o) (at.0 ∙ ap (content_in o t content ls) kind)))
    (value-takes o ls (shortest_head (string_major t) (length content) ++ content) (sym at.1 ∙ none) (sym (in_key-is ls) ∙ kind))

bytes-of : (o : KeyOrder) (t : Bool) (content : List ℕ) (s : Spelling) → value_of s ≡ string_value t content → shortest_head (string_major t) (length content) ++ content ≡ canonical o (value_of s)
bytes-of o t content s e = sym (string-bytes o t content) ∙ ap (canonical o) (sym e)

settled : (k : Bool) (start old new : KeyBytes) (d : ℕ) (ls : List Level) (s : Spelling) → Completes d ls s → old.inside ≡ inside ls → k ≡ key_expected ls → new.builder.order ≡ old.builder.order
    → new.builder.open_levels ≡ with_item old.inside k (canonical old.builder.order (value_of s)) (kept_all old.builder.order ls) → new.inside ≡ old.inside → keys_agree start new (settle ls s)
settled k start old new d ls s done count reported same agrees stays =
    let o = old.builder.order in
    agrees-by o new.builder.order _ new.builder.open_levels _ new.inside (settle ls s) same (agrees ∙ (λ i. with_item (count i) (reported i) (canonical o (value_of s)) (kept_all o ls))) (stays ∙ count)
    (item-kept o d ls s done.levels done.taken (omega (arith, done.short)))

pub ends-kept : (k t : Bool) (old new : KeyBytes) (mid : Built) → is_kept old.inside k ≡ true → mid ≡ built old.builder.order (close old.builder.order old.builder.open_levels)
    → new.builder ≡ built mid.order (after_item old.inside mid.open_levels) → new.inside ≡ old.inside → EndsString KeyBytes keys_agree keys_hold k t old new
ends-kept k t old new mid keeps is following stays start d ls content s at reported done e =
    let o = old.builder.order in
    let os = kept_all o ls in
    let kind = here k old ls at.1 reported ∙ keeps in
    settled k start old new d ls s done at.1 reported (ap (λ (x : Built). x.order) following ∙ ap (λ (x : Built). x.order) is)
    (ap (λ (x : Built). x.open_levels) following ∙ ap (λ (x : Built). after_item old.inside x.open_levels) is
    ∙ ap (λ (xs : List Open). after_item old.inside (close o xs)) (at.0 ∙ ap (content_in o t content ls) kind)
    ∙ ap (λ (b : List ℕ). after_item old.inside (give b os)) (bytes-of o t content s e)
    ∙ with-kept old.inside k (canonical o (value_of s)) os keeps) stays

pub ends-left : (k t : Bool) (old : KeyBytes) → is_kept old.inside k ≡ false → EndsString KeyBytes keys_agree keys_hold k t old old
ends-left k t old lacks start d ls content s at reported done e =
    let o = old.builder.order in
    let os = kept_all o ls in
    settled k start old old d ls s done at.1 reported refl (at.0 ∙ ap (content_in o t content ls) (here k old ls at.1 reported ∙ lacks) ∙ with-left old.inside k (canonical o (value_of s)) os lacks) refl
