-- Why nothing that rules accept begins where an item is expected.
use Rattle.std.proofs.Common.{◌≡◌, ℕ, ◌+◌, ◌/◌, ◌%◌, ◌<◌, ◌≤◌, Bool, true, false, List, [], ◌∷◌, refl, sym, subst, inl, inr, arith, IsTrue}
use Rattle.cbor_head.specs.Prelude.{Rules, OfHead, refusal, shortest}
use Rattle.cbor_head.specs.declared.reason.Reason.TheVariants.{Truncated, KeyKind, Indefinite}
use Rattle.cbor_head.specs.declared.{major.Major.Major, width.Width.Width, reason.Reason.Reason, reason.Refusal.Refusal}
use Rattle.cbor_head.specs.{InitialByte.MayBegin, InitialByte.IsInitialByteError, declared.argument.Argument.Argument}
use Rattle.theory_values.specs.FirstBytes.{is_basic}
use Rattle.theory_verdicts.proofs.RefusedHere.{nothing_here, indefinite_here, initial_byte_error_stops, kind_refused}
use Rattle.theory_verdicts.specs.{PathKinds.IsFitPrefix, RefusedHere.IsRefusedBy, Judged.Never}
use Rattle.theory_verdicts.proofs.HeadComplaints.{heads_free, shortest_clean}
use Rattle.cbor_parser.specs.declared.item_start.ItemStart.TheVariants as starts
use Rattle.cbor_parser.specs.inner.Faults.{AreRulesOf, IsFault, IsRefusedStart, IsIndefiniteStart}
use Rattle.cbor_parser.specs.{Strings.IsStringHead, Strings.IsStringFault, declared.item_start.Here.Here, declared.item_start.ItemStart.ItemStart}
use Rattle.cbor_parser.proofs.AnyRefusals.{string_refused}

-- ---- what both rules require

pub texts_asked : (s : Bool) (r : Rules) → AreRulesOf s r → IsTrue r.texts
texts_asked true r (o, e) = subst (λ (x : Rules). IsTrue x.texts) (sym e) refl
texts_asked false r e = subst (λ (x : Rules). IsTrue x.texts) (sym e) refl

pub kinds_asked : (s : Bool) (r : Rules) → AreRulesOf s r → IsTrue r.kinds
kinds_asked true r (o, e) = subst (λ (x : Rules). IsTrue x.kinds) (sym e) refl
kinds_asked false r e = subst (λ (x : Rules). IsTrue x.kinds) (sym e) refl

pub heads_asked : (s : Bool) (r : Rules) → AreRulesOf s r → s ≡ true → IsTrue r.heads
heads_asked true r (o, e) is = subst (λ (x : Rules). IsTrue x.heads) (sym e) refl
heads_asked false r e is = cc is

-- no complaint about a head that is the shortest if that is required
pub quiet_head : (s : Bool) (r : Rules) → AreRulesOf s r → (w : Width) (n : ℕ) → (s ≡ true → w ≡ shortest n) → (to : ℕ) (m : Major) → Never (OfHead r to m w n)
quiet_head true r rules w n short to m = shortest_clean r to m w n (short refl)
quiet_head false r e w n short to m = subst (λ (x : Rules). Never (OfHead x to m w n)) (sym e) (heads_free to m w n)

-- ---- what is refused

pub fault_same : (r : Rules) (b c : List ℕ) (at : ℕ) (here : Here) (f g : Refusal) → b ≡ c → g ≡ f → IsFault r c at here f → IsFault r b at here g
fault_same r b c at here f g is e h = subst (λ (x : List ℕ). IsFault r x at here g) (sym is) (subst (IsFault r c at here) (sym e) h)

-- nothing is left
pub cut_off : (r : Rules) (at end : ℕ) (here : Here) → end ≡ at + 0 → IsFault r [] at here (refusal Truncated end end)
cut_off r at end here e = λ limits ls clean breaks keeps asked place are. nothing_here r here.space at end e limits ls clean tt (record { before = keeps; here = λ kinds expected. tt }) place are

module _ (r : Rules) (first : ℕ) (following : List ℕ) (at : ℕ) (here : Here) (no_break : first ≡ 0xff → here.may_break ≡ true → ⊥) where
  abbrev b : List ℕ
  b = first ∷ following

  pub fault_initial_byte_error : (reason : Reason) → IsInitialByteError first here.space reason → IsFault r b at here (refusal reason at (at + 1))
  fault_initial_byte_error reason h = λ limits ls clean breaks keeps asked place are. initial_byte_error_stops r here.space first following at reason h limits ls clean (λ e m. no_break e (breaks m)) keeps place are

  pub fault_of_kind : IsTrue r.kinds → MayBegin first here.space → here.is_key ≡ true → ¬ IsTrue (is_basic (first / 32)) → IsFault r b at here (refusal KeyKind at (at + 1))
  fault_of_kind kinds placed key other = λ limits ls clean breaks keeps asked place are. let both = asked.both key in kind_refused here.space first following at placed other r kinds limits ls clean keeps both.0 both.1 place are

  -- if the kind of a key is judged, the key is fit
  pub fault_of : (f : Refusal) → (here.is_key ≡ true → IsFitPrefix b) → IsRefusedBy r here.space b at f → IsFault r b at here f
  fault_of f fit h = λ limits ls clean breaks keeps asked place are. h limits ls clean (λ e m. no_break e (breaks m)) (record { before = keeps; here = λ kinds expected. fits here.is_key (λ e. fit e) (λ e. asked.none e kinds.1 expected) }) place are
    where
      fits : (k : Bool) → (k ≡ true → IsFitPrefix b) → (k ≡ false → ⊥) → IsFitPrefix b
      fits true known never = known refl
      fits false known never = absurd (never refl)

  -- a string in one piece
  pub string_fault : (xs : List ℕ) → xs ≡ b → (here.is_key ≡ true → IsFitPrefix b) → IsTrue r.texts → (head : Argument) → ((to : ℕ) (m : Major) → Never (OfHead r to m head.width head.number)) → IsStringHead xs head → (f : Refusal) → IsStringFault xs head at f → IsFault r xs at here f
  string_fault xs is fit texts head quiet s f h =
      let refused = string_refused xs head at f s h r here.space texts quiet in
      fault_same r xs b at here f f is refl (fault_of f fit (subst (λ (x : List ℕ). IsRefusedBy r here.space x at f) is refused))

-- ---- what has no length

-- an opener, or by the strict rules nothing
pub indefinite_fault : (s : Bool) (xs : List ℕ) (first : ℕ) (following : List ℕ) (at : ℕ) (here : Here) → xs ≡ first ∷ following → (first ≡ 0xff → here.may_break ≡ true → ⊥) → (here.is_key ≡ true → IsFitPrefix (first ∷ following)) → MayBegin first here.space → first % 32 ≡ 31
    → (start : ItemStart) → IsIndefiniteStart s first following at start → IsRefusedStart s xs at here start
indefinite_fault true xs first following at here is no_break fit placed low start e =
    subst (IsRefusedStart true xs at here) (sym e) (λ r rules.
    let opens : (64 ≤ first) × (first < 192) = elim placed.low [ inl l ↦ absurd (omega (arith, l, low)) | inr l ↦ (l.1, l.2) ] in
    let f = refusal Indefinite at (at + 1) in
    fault_same r xs (first ∷ following) at here f f is refl
    (fault_of r first following at here no_break f fit (indefinite_here r here.space first following at (heads_asked true r rules refl) low opens.0 opens.1 placed.fits)))
indefinite_fault false xs first following at here is no_break fit placed low (starts.Refused f) h = λ r rules.
    fault_same r xs (first ∷ following) at here f f is refl
    (fault_of r first following at here no_break f fit (subst (λ (x : Rules). IsRefusedBy x here.space (first ∷ following) at f) (sym rules) (h here.space)))
indefinite_fault false xs first following at here is no_break fit placed low starts.Indefinite h = tt
indefinite_fault false xs first following at here is no_break fit placed low (starts.Leaf used) h = absurd h
indefinite_fault false xs first following at here is no_break fit placed low (starts.Opens expected left used) h = absurd h
