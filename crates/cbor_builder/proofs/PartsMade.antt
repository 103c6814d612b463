-- The parts that make a value leave its canonical bytes as one more finished member.
use Rattle.std.proofs.Common.{◌≡◌, ℕ, suc, ◌+◌, List, [], ◌∷◌, ◌++◌, append_assoc, append-nil, length, refl, sym, ap, ◌∙◌, arith, flat_map}
use Rattle.cbor_head.specs.Value as value
use Rattle.cbor_head.specs.Prelude.{Value, Values, Entries, values_count, Pair, in_order, canonical, canonical_all, canonical_entries, shortest_head}
use Rattle.cbor_head.specs.declared.major.Major.TheVariants.{Bytes, Text, Array, Map, Tag}
use Rattle.cbor_head.specs.declared.{order.KeyOrder.KeyOrder, major.Major.Major}
use Rattle.theory_values.proofs.Induction.{AllOf, AllIn, by_cases}
use Rattle.theory_values.specs.Parts.{Open, plain, an_array, a_map, a_key, a_string, pair, closed, give, opened, run, after, Part, begin, end, string_parts, chunks_joined, Makes, MakesAll, MakesEntries, MakesString}
use Rattle.theory_values.{proofs.Reported.length-canonical_entries, specs.Pairs.pair_bytes}

pub run-append : (o : KeyOrder) (ps qs : List Part) (os : List Open) → run o (ps ++ qs) os ≡ run o qs (run o ps os)
run-append o [] qs os = refl
run-append o (p ∷ ps) qs os = run-append o ps qs (after o p os)

-- strings, however they are cut
runs_string : (o : KeyOrder) (m : Major) (bs : List (List ℕ)) (s : List ℕ) (os : List Open) → run o (string_parts bs) (a_string m s ∷ os) ≡ give (closed o (a_string m (s ++ chunks_joined bs))) os
runs_string o m [] s os = ap (λ (t : List ℕ). give (closed o (a_string m t)) os) (sym (append-nil s))
runs_string o m (b ∷ bs) s os =
    runs_string o m bs (s ++ b) os ∙ ap (λ (t : List ℕ). give (closed o (a_string m t)) os) (append_assoc s b (chunks_joined bs))

abbrev pub Builds : KeyOrder → Value → Type 0
Builds o v = (ps : List Part) → Makes v ps → (os : List Open) → run o ps os ≡ give (canonical o v) os

builds_string : (o : KeyOrder) (m : Major) (s : List ℕ) (ps : List Part) → ((n : ℕ) → opened m n ≡ a_string m []) → MakesString m s ps → (os : List Open) → run o ps os ≡ give (shortest_head m (length s) ++ s) os
builds_string o m s ps is h os =
    ap (λ (p : List Part). run o p os) h.3 ∙ ap (λ (c : Open). run o (string_parts h.1) (c ∷ os)) (is h.0) ∙ runs_string o m h.1 [] os ∙ ap (λ (t : List ℕ). give (closed o (a_string m t)) os) h.2

runs_all : (o : KeyOrder) (vs : Values) → AllOf (Builds o) vs → (ps : List Part) → MakesAll vs ps → (n : ℕ) (bs : List ℕ) (os : List Open)
    → run o ps (an_array n bs ∷ os) ≡ an_array (n + values_count vs) (bs ++ canonical_all o vs) ∷ os
runs_all o value.no_values b ps m n bs os =
    let num : n ≡ n + 0 = omega arith in
    let none = sym (append-nil bs) in ap (λ (p : List Part). run o p (an_array n bs ∷ os)) m ∙ (λ i. an_array (num i) (none i) ∷ os)
runs_all o (value.a_value v vs) b ps m n bs os =
    let num : suc n + values_count vs ≡ n + suc (values_count vs) = omega arith in
    let same = append_assoc bs (canonical o v) (canonical_all o vs) in
    ap (λ (p : List Part). run o p (an_array n bs ∷ os)) m.4
    ∙ run-append o m.0 m.1 (an_array n bs ∷ os)
    ∙ ap (run o m.1) (b.0 m.0 m.2 (an_array n bs ∷ os))
    ∙ runs_all o vs b.1 m.1 m.3 (suc n) (bs ++ canonical o v) os
    ∙ (λ i. an_array (num i) (same i) ∷ os)

runs_entries : (o : KeyOrder) (es : Entries) → AllIn (Builds o) es → (ps : List Part) → MakesEntries es ps → (acc : List Pair) (os : List Open)
    → run o ps (a_map acc ∷ os) ≡ a_map (acc ++ canonical_entries o es) ∷ os
runs_entries o value.no_entries b ps m acc os =
    ap (λ (p : List Part). run o p (a_map acc ∷ os)) m ∙ ap (λ (qs : List Pair). a_map qs ∷ os) (sym (append-nil acc))
runs_entries o (value.entry k v es) b ps m acc os =
    let start = a_map acc ∷ os in
    let keyed = a_key acc (canonical o k) ∷ os in
    ap (λ (p : List Part). run o p start) m.6
    ∙ run-append o m.0 (m.1 ++ m.2) start
    ∙ ap (run o (m.1 ++ m.2)) (b.0 m.0 m.3 start)
    ∙ run-append o m.1 m.2 keyed
    ∙ ap (run o m.2) (b.1 m.1 m.4 keyed)
    ∙ runs_entries o es b.2 m.2 m.5 (acc ++ pair (canonical o k) (canonical o v) ∷ []) os
    ∙ ap (λ (qs : List Pair). a_map qs ∷ os) (append_assoc acc (pair (canonical o k) (canonical o v) ∷ []) (canonical_entries o es))

-- the parts of what is inside, between a beginning and an end
runs_around : (o : KeyOrder) (m : Major) (n : ℕ) (qs ps : List Part) (c : Open) (os : List Open) → ps ≡ begin m n ∷ qs ++ end ∷ [] → run o qs (opened m n ∷ os) ≡ c ∷ os → run o ps os ≡ give (closed o c) os
runs_around o m n qs ps c os is within = ap (λ (p : List Part). run o p os) is ∙ run-append o qs (end ∷ []) (opened m n ∷ os) ∙ ap (run o (end ∷ [])) within

builds_array : (o : KeyOrder) (vs : Values) → AllOf (Builds o) vs → Builds o (value.array vs)
builds_array o vs b ps m os =
    let count : 0 + values_count vs ≡ values_count vs = omega arith in
    runs_around o Array m.0 m.1 ps _ os m.3 (runs_all o vs b m.1 m.2 0 [] os) ∙ ap (λ (n : ℕ). give (shortest_head Array n ++ canonical_all o vs) os) count

builds_map : (o : KeyOrder) (es : Entries) → AllIn (Builds o) es → Builds o (value.map es)
builds_map o es b ps m os =
    runs_around o Map m.0 m.1 ps _ os m.3 (runs_entries o es b m.1 m.2 [] os)
    ∙ ap (λ (n : ℕ). give (shortest_head Map n ++ flat_map pair_bytes (in_order o (canonical_entries o es))) os) (length-canonical_entries o es)

builds_tag : (o : KeyOrder) (n : ℕ) (v : Value) → Builds o v → Builds o (value.tag n v)
builds_tag o n v b ps m os = runs_around o Tag n m.0 ps _ os m.2 (b m.0 m.1 (plain (shortest_head Tag n) ∷ os))

-- whatever is open, the parts of a value leave its canonical bytes as one finished member, equal keys or not
pub builds : (o : KeyOrder) (v : Value) → Builds o v
builds o = by_cases {P = Builds o} (record {
  at_unsigned = λ n ps m os. ap (λ (p : List Part). run o p os) m;
  at_negative = λ n ps m os. ap (λ (p : List Part). run o p os) m;
  at_bytes = λ s ps m os. builds_string o Bytes s ps (λ n. refl) m os;
  at_text = λ s ps m os. builds_string o Text s ps (λ n. refl) m os;
  at_array = builds_array o;
  at_map = builds_map o;
  at_tag = builds_tag o;
  at_simple = λ n ps m os. ap (λ (p : List Part). run o p os) m;
})

-- from nothing, they leave the canonical bytes
pub builds_whole : (o : KeyOrder) (v : Value) (ps : List Part) → Makes v ps → run o ps (plain [] ∷ []) ≡ plain (canonical o v) ∷ []
builds_whole o v ps m = builds o v ps m (plain [] ∷ [])
