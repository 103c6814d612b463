-- What follows from a result.
use Rattle.std.proofs.Common.{Result, Ok, Err, OnOk, IfOk, IfErr}

-- of a result without a value
pub on_ok : {E : Type 0} → (r : Result (Unit {0}) E) (P Q : Type 0) → (P → Q) → OnOk r P → OnOk r Q
on_ok (Ok done) P Q f h = f h
on_ok (Err fault) P Q f h = tt

-- of a result with a value
pub if_ok : {A E : Type 0} → (r : Result A E) (P Q : A → Type 0) → ((a : A) → P a → Q a) → IfOk r P → IfOk r Q
if_ok (Ok a) P Q f h = f a h
if_ok (Err fault) P Q f h = tt

pub both_ok : {A E : Type 0} → (r : Result A E) (P Q R : A → Type 0) → ((a : A) → P a → Q a → R a) → IfOk r P → IfOk r Q → IfOk r R
both_ok (Ok a) P Q R f h k = f a h k
both_ok (Err fault) P Q R f h k = tt

pub if_err : {A E : Type 0} → (r : Result A E) (P Q : E → Type 0) → ((fault : E) → P fault → Q fault) → IfErr r P → IfErr r Q
if_err (Ok a) P Q f h = tt
if_err (Err fault) P Q f h = f fault h
