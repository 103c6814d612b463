-- An input that is checked as it is read.
use Rattle.std.proofs.Common.{ℕ, ◌+◌, ◌≡◌, ◌≢◌, ◌<◌, ◌≤◌, ◌++◌, ◌⊎◌, inl, inr, true, false, Option, Ok, Err, List, [], ◌∷◌, length, take, drop, refl, sym, ap, ◌∙◌, arith, subst, append_assoc, append-nil, length-append, length-take-le}
use Rattle.std.proofs.{lemmas.List.take-append-drop, lemmas.List.length-drop, Math.Seq.drop-length}
use Rattle.cbor_head.specs.Prelude.{Rules, Bounds, strict, refusal, refused, IsVerdict}
use Rattle.cbor_head.specs.declared.reason.Reason.TheVariants as reasons
use Rattle.cbor_head.specs.declared.{event.Event.Event, order.KeyOrder.KeyOrder, reason.Refusal.Refusal}
use Rattle.theory_automaton.specs.Trace.{Mark}
use Rattle.cbor_machine.specs.declared.step.Out.TheVariants as outs
use Rattle.cbor_machine.specs.{Machine.KeepsLimits, Machine.IsMore, declared.step.Out.Out}
use Rattle.theory_verdicts.specs.Readers as readers
use Rattle.cbor_reader.specs.WholeItem.{IsItemRefusal, unread, trailing}
use Rattle.cbor_stream.specs.StrictMachine.{StrictMachineView, AgreesAmid, limits_of}
use Rattle.cbor_stream.specs.Said.{Tells, Says, SaysMore, SaysDone, SaysRefused}
use Rattle.cbor_stream.proofs.Checking.{limits_same}
use Rattle.cborc_files.specs.Folder.{Files, KeepsFiles, IsThere}
use Rattle.cborc_words.specs.declared.request.Options.{Options}
use Rattle.cborc_commands.specs.inner.{Parts.PartsView, Parts.IsReadTo, Parts.IsNextPart, Sources.HasInput, Sources.HasNoInput, Sources.IsNoPart}
use Rattle.cborc_commands.proofs.{Faults.refusal_is, Files.holds_there, ItemFaults.no_input, ReadParts.took, ReadParts.next_part, ReadParts.input_there, ReadParts.input_ended, ReadParts.no_input_there, ReadParts.no_next_part, ReadParts.weight, ReadParts.read_less, Sources.unread as not_read}
use Rattle.cborc_commands.specs.{inner.WholeInput.IsWholeInput, Check.IsNoWholeInput, Input.IsInput, Fault.IsOfInput, Fault.refusal_fault}
use Rattle.cborc_commands.{specs.declared.fault.Fault.Fault, specs.inner.Start.StartsInput, proofs.Files.same_files}

-- The bytes `taken` were consumed and checked, and nothing in them is refused; the machine is the one after them.
pub record IsCheckedTo (held : Option Files) (path : List ℕ) (options : Options) (o : KeyOrder) (m : StrictMachineView) (p : PartsView) : Type 0 where
  pub taken : List ℕ
  pub marks : List Mark
  pub read : IsReadTo held path options.hex taken p
  pub agrees : AgreesAmid m taken marks
  pub limits_are : limits_of m ≡ options.limits
  pub order_is : m.order ≡ o

longer : (xs : List ℕ) → xs ≢ [] → 0 < length xs
longer [] some = absurd (some refl)
longer (x ∷ xs) some = omega (arith)

-- an input that ended with the first part
pub starts_ended : (held : Option Files) (path : List ℕ) (options : Options) (rules : Rules) (p : PartsView) → IsReadTo held path options.hex [] p → p.source.ended ≡ true → StartsInput rules held path options p.rest
starts_ended held path options rules p r ended = record {
  input = p.rest;
  is = input_ended held held path options.hex [] p (same_files held) r ended;
  following = [];
  splits = append-nil p.rest;
  enough = inl refl;
}

-- the next part was read
pub next_checked : (held : Option Files) (path : List ℕ) (options : Options) (o : KeyOrder) (m : StrictMachineView) (old new : PartsView) (now : Option Files) → KeepsFiles held now
    → IsCheckedTo held path options o m old → IsNextPart now path old new → IsCheckedTo held path options o m new
next_checked held path options o m old new now keeps c n = record {
  taken = c.taken;
  marks = c.marks;
  read = next_part held now path options.hex c.taken old new keeps c.read n;
  agrees = c.agrees;
  limits_are = c.limits_are;
  order_is = c.order_is;
}

-- no event is reported
pub more_is : (m : StrictMachineView) (all : List ℕ) (out : Out) → (out ≡ outs.More) ⊎ ((e : Event) × (out ≡ outs.Event e)) → Says out m all → IsMore out × SaysMore m all
more_is m all out (inl is) says = (subst IsMore (sym is) tt, subst (λ (x : Out). Says x m all) is says)
more_is m all out (inr (e, is)) says = absurd (subst (λ (x : Out). Says x m all) is says)

-- nothing is left of a part that was checked whole
pub none_left : (old p : PartsView) (used : ℕ) → p.rest ≡ drop used old.rest → used ≡ length old.rest → p.rest ≡ []
none_left old p used rest whole = rest ∙ ap (λ (i : ℕ). drop i old.rest) whole ∙ drop-length old.rest

-- the loop ends: less is left after some of a part was checked and the next one was read
pub less_left : (now : Option Files) (path : List ℕ) (old p new : PartsView) (used : ℕ) → p.rest ≡ drop used old.rest → p.source ≡ old.source → p.source.ended ≡ false → IsNextPart now path p new → weight new < weight old
less_left now path old p new used rest source live n =
    omega (arith, read_less now path p new live n, ap not_read source, ap length rest, length-drop used old.rest)

-- The bytes `all` were consumed, and the machine is the one after them.
pub record IsTakenTo (held : Option Files) (path : List ℕ) (options : Options) (o : KeyOrder) (m : StrictMachineView) (p : PartsView) (all : List ℕ) : Type 0 where
  pub read : IsReadTo held path options.hex all p
  pub limits_are : limits_of m ≡ options.limits
  pub order_is : m.order ≡ o

-- this number of the bytes that were read was checked
pub taken_to : (held : Option Files) (path : List ℕ) (options : Options) (o : KeyOrder) (was m : StrictMachineView) (old p : PartsView) (c : IsCheckedTo held path options o was old) (used : ℕ)
    → used ≤ length old.rest → p.rest ≡ drop used old.rest → p.start ≡ old.start + used → p.source ≡ old.source
    → KeepsLimits was.machine m.machine → m.order ≡ was.order → m.keys ≡ was.keys → IsTakenTo held path options o m p (c.taken ++ take used old.rest)
taken_to held path options o was m old p c used within rest start source limits order keys =
    let size : length (take used old.rest) ≡ used = length-take-le used old.rest within in
    record {
      read = took held held path options.hex c.taken old p (same_files held) c.read (take used old.rest) (drop used old.rest) (take-append-drop used old.rest)
          (rest ∙ ap (λ (n : ℕ). drop n old.rest) (sym size)) (start ∙ ap (λ (n : ℕ). old.start + n) (sym size)) source;
      limits_are = limits_same was m limits keys ∙ c.limits_are;
      order_is = order ∙ c.order_is;
    }

module _ (held : Option Files) (path : List ℕ) (options : Options) (o : KeyOrder) (m : StrictMachineView) (p : PartsView) (all : List ℕ) (a : IsTakenTo held path options o m p all) where
  checked_to : (ms : List Mark) → AgreesAmid m all ms → IsCheckedTo held path options o m p
  checked_to ms s = record { taken = all; marks = ms; read = a.read; agrees = s; limits_are = a.limits_are; order_is = a.order_is }

  pub more_checked : SaysMore m all → IsCheckedTo held path options o m p
  more_checked h = checked_to h.0.0 h.0.1

  pub done_checked : (out : Out) → Says out m all → out ≡ outs.Done → IsCheckedTo held path options o m p
  done_checked out h is = let done = subst (λ (x : Out). Says x m all) is h in checked_to done.0.0 done.0.1

  -- the same, by the limits and the order of the task
  told : (x : Refusal) (bytes : List ℕ) → Tells (limits_of m) m.order bytes (Err x) → IsVerdict options.limits (strict o) bytes (refused x)
  told x bytes h =
      subst (λ (b : Bounds). IsVerdict b (strict o) bytes (refused x)) a.limits_are (subst (λ (k : KeyOrder). IsVerdict (limits_of m) (strict k) bytes (refused x)) a.order_is h)

  told_size : (n : ℕ) (bytes : List ℕ) → Tells (limits_of m) m.order bytes (Ok n) → readers.IsRead options.limits (strict o) bytes n
  told_size n bytes h =
      subst (λ (b : Bounds). readers.IsRead b (strict o) bytes n) a.limits_are (subst (λ (k : KeyOrder). readers.IsRead (limits_of m) (strict k) bytes n) a.order_is h)

  there : IsThere held path
  there = holds_there _ _ _ a.read.given.file.holds

  -- why the input is refused
  refuses : (f : Refusal) (input : List ℕ) → IsInput held path options.hex input → (IsOfInput f.reason → IsItemRefusal options.limits (strict o) input f) → (fault : Fault) → fault ≡ refusal_fault f
      → IsNoWholeInput (strict o) options path held fault
  refuses f input is h fault e = refusal_is (IsNoWholeInput (strict o) options path held) f fault e (λ own. (input, is, h own, own)) (λ other. there)

  by_verdict : (f : Refusal) (input : List ℕ) → (f.reason ≢ reasons.Memory → IsVerdict options.limits (strict o) input (refused f)) → IsOfInput f.reason → IsItemRefusal options.limits (strict o) input f
  by_verdict f input h own = unread (readers.of_verdict (h (λ is. subst IsOfInput is own))) (λ is. subst IsOfInput is own)

  module _ (now : Option Files) (keeps : KeepsFiles held now) where
    pub refused_there : (out : Out) → Says out m all → (f : Refusal) → out ≡ outs.Refused f → HasInput now path p.source → (fault : Fault) → fault ≡ refusal_fault f → IsNoWholeInput (strict o) options path held fault
    refused_there out said f out-is is fault e =
        let says : SaysRefused f m all = subst (λ (x : Out). Says x m all) out-is said in
        let k = input_there held now path options.hex all p keeps a.read is in
        refuses f ((all ++ p.rest) ++ k.following) k.is
        (by_verdict f ((all ++ p.rest) ++ k.following) (λ no. told f ((all ++ p.rest) ++ k.following)
        (subst (λ (b : List ℕ). Tells (limits_of m) m.order b (Err f)) (sym (append_assoc all p.rest k.following)) (says.1 no (p.rest ++ k.following))))) fault e

    pub no_part_there : (fault : Fault) → IsNoPart now path p.source fault → IsNoWholeInput (strict o) options path held fault
    no_part_there fault h = no_input (strict o) options path held fault (no_next_part held now path options.hex all p keeps a.read fault h)

    pub no_rest : (fault : Fault) → HasNoInput now path p.source fault → IsNoWholeInput (strict o) options path held fault
    no_rest fault h = no_input (strict o) options path held fault (no_input_there held now path options.hex all p keeps a.read fault h)

    pub whole_there : (out : Out) → Says out m all → out ≡ outs.Done → HasInput now path p.source → p.rest ≡ [] → p.source.ended ≡ true → (n : ℕ) → n ≡ p.start → IsWholeInput (strict o) options path held n
    whole_there out said out-is is none ended n n-is =
        let says : SaysDone m all = subst (λ (x : Out). Says x m all) out-is said in
        let k = input_there held now path options.hex all p keeps a.read is in
        let same : (all ++ p.rest) ++ k.following ≡ all ++ [] =
        ap (λ (b : List ℕ). (all ++ p.rest) ++ b) (k.end ended) ∙ append-nil (all ++ p.rest) ∙ ap (λ (b : List ℕ). all ++ b) none in
        let count : n ≡ length all = n-is ∙ a.read.start_is in
        record {
          input = all ++ [];
          is = subst (IsInput held path options.hex) same k.is;
          whole = (subst (readers.IsRead options.limits (strict o) (all ++ [])) (sym count) (told_size (length all) (all ++ []) (says.1 []).0), count ∙ ap length (sym (append-nil all)));
        }

    pub followed_there : (out : Out) → Says out m all → out ≡ outs.Done → HasInput now path p.source → p.rest ≢ [] → (n : ℕ) → n ≡ p.start → (f : Refusal) → f ≡ refusal reasons.Trailing n n → (fault : Fault) → fault ≡ refusal_fault f
        → IsNoWholeInput (strict o) options path held fault
    followed_there out said out-is is some n n-is f f-is fault e =
        let says : SaysDone m all = subst (λ (x : Out). Says x m all) out-is said in
        let k = input_there held now path options.hex all p keeps a.read is in
        let input : List ℕ = (all ++ p.rest) ++ k.following in
        let count : n ≡ length all = n-is ∙ a.read.start_is in
        let read-it = told_size (length all) input (subst (λ (b : List ℕ). Tells (limits_of m) m.order b (Ok (length all))) (sym (append_assoc all p.rest k.following)) (says.1 (p.rest ++ k.following)).0) in
        refuses f input k.is
        (λ own. trailing n (subst (readers.IsRead options.limits (strict o) input) (sym count) read-it)
        (omega (arith, count, length-append (all ++ p.rest) k.following, length-append all p.rest, longer p.rest some)) f-is) fault e

    pub cut_there : SaysMore m all → p.rest ≡ [] → p.source.ended ≡ true → (n : ℕ) → n ≡ m.machine.taken → (fault : Fault) → fault ≡ refusal_fault (refusal reasons.Truncated n n)
        → IsNoWholeInput (strict o) options path held fault
    cut_there says none ended n n-is fault e =
        let count : n ≡ length all = n-is ∙ says.0.1.agrees.taken in
        let is = subst (λ (b : List ℕ). IsInput held path options.hex b) (ap (λ (b : List ℕ). all ++ b) none ∙ append-nil all) (input_ended held now path options.hex all p keeps a.read ended) in
        refuses (refusal reasons.Truncated n n) all is
        (by_verdict (refusal reasons.Truncated n n) all (λ no. told (refusal reasons.Truncated n n) all
        (subst (λ (i : ℕ). Tells (limits_of m) m.order all (Err (refusal reasons.Truncated i i))) (sym count) says.1))) fault e
