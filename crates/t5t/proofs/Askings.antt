-- Parts of a call that ask for bytes, put together. Assumes nothing.
use Rattle.std.proofs.Common.{◌≡◌, ℕ, ◌/◌, ◌%◌, Bool, true, false, cond, get_or, IfOk, Some, None, Ok, Err, Option, Result, sym, refl, ◌∙◌, subst}
use Rattle.memory.specs.BlockLength.{bytes_of}
use Rattle.procedure.specs.Procedure.{Procedure, answer, send, bind, Air, Performs}
use Rattle.procedure.proofs.Binds.{performs-none, performs_then}
use Rattle.shown.specs.declared.flaw.Flaw.{Flaw}
use Rattle.shown.specs.Asks.{Asks, done, byte, and_then, just_byte}
use Rattle.t5t.specs.declared.kept.Kept.{Kept}
use Rattle.t5t.specs.declared.link.Link.{Link}
use Rattle.refusal.specs.declared.step.Step.{Step}
use Rattle.t5t.specs.declared.stop.Stop.{Stop}
use Rattle.t5t.specs.Asking.{kept_at, or_reads, block_of, BlockRead, or_stop, with_kept, asking, flawed, stopped, Asked, Had}

bind_assoc : {U V W : Type 0} (p : Procedure U) (f : U → Procedure V) (g : V → Procedure W) → bind (bind p f) g ≡ bind p (λ v. bind (f v) g)
bind_assoc (answer v) f g = refl
bind_assoc (send x on) f g = λ i. send x (λ r. bind_assoc (on r) f g i)

-- what stops, stops all that follows
stop-all : {U V W : Type 0} (f : U → Procedure (Result V Stop)) (g : V → Procedure (Result W Stop)) (r : Result U Stop) → bind (or_stop f r) (or_stop g) ≡ or_stop (λ v. bind (f v) (or_stop g)) r
stop-all f g (Ok v) = refl
stop-all f g (Err s) = refl

-- one part after the other
module _ {V W : Type 0} (step : Step) (u unit : ℕ) (next : V → Asks (Result W Flaw)) where
  abbrev onward : V × Option Kept → Procedure (Result (W × Option Kept) Stop)
  onward p = asking step u unit p.1 (next p.0)

  asking_and : (k : Option Kept) (x : Asks (Result V Flaw)) → asking step u unit k (and_then x next) ≡ bind (asking step u unit k x) (or_stop onward)
  asking_and k (done (Ok v)) = refl
  asking_and k (done (Err e)) = refl
  asking_and k (byte a on) =
      let block = block_of step u unit k (a / unit) in
      let each = λ (k' : Kept). asking step u unit (Some k') (on (get_or k'.bytes (a % unit) 0)) in
      (λ i. bind block (or_stop (λ k'. asking_and (Some k') (on (get_or k'.bytes (a % unit) 0)) i))) ∙ (λ i. bind block (λ r. sym (stop-all each onward r) i)) ∙ sym (bind_assoc block (or_stop each) (or_stop onward))

module _ {V W : Type 0} (step : Step) (x : Asks (Result V Flaw)) (next : V → Asks (Result W Flaw)) (l l' : Link) (a b : Air) where
  -- the first part answers, and the second goes on
  pub and_ok : (l'' : Link) (c : Air) (v : V) (r : Result W Stop) → Asked step x l l' a b (Ok v) → Asked step (next v) l' l'' b c r → Asked step (and_then x next) l l'' a c r
  and_ok l'' c v r first second =
      let u = l.uid.0 in
      let unit = bytes_of l.unit in
      let eu = first.uid in
      let en = first.unit in
      let on : Performs (asking step u unit l'.kept (next v)) b c (with_kept r l''.kept) l'.exchanges l''.exchanges = subst (λ z. Performs (asking step z.0 unit l'.kept (next v)) b c (with_kept r l''.kept) l'.exchanges l''.exchanges) eu (subst (λ z. Performs (asking step l'.uid.0 (bytes_of z) l'.kept (next v)) b c (with_kept r l''.kept) l'.exchanges l''.exchanges) en second.performs) in
      let both = performs_then (asking step u unit l.kept x) (or_stop (onward step u unit next)) a b c (Ok (v, l'.kept)) (with_kept r l''.kept) l.exchanges l'.exchanges l''.exchanges first.performs on in
      record {
        performs = subst (λ p. Performs p a c (with_kept r l''.kept) l.exchanges l''.exchanges) (sym (asking_and step u unit next l.kept x)) both;
        uid = second.uid ∙ eu;
        unit = second.unit ∙ en;
      }

  -- the first part stops
  pub and_err : (s : Stop) → Asked step x l l' a b (Err s) → Asked step (and_then x next) l l' a b (Err s)
  and_err s first =
      let u = l.uid.0 in
      let unit = bytes_of l.unit in
      let both = performs_then (asking step u unit l.kept x) (or_stop (onward step u unit next)) a b b (Err s) (Err s) l.exchanges l'.exchanges l'.exchanges first.performs (performs-none b (Err s) l'.exchanges) in
      record {
        performs = subst (λ p. Performs p a b (Err s) l.exchanges l'.exchanges) (sym (asking_and step u unit next l.kept x)) both;
        uid = first.uid;
        unit = first.unit;
      }

-- nothing is asked for
pub asked_done : {V : Type 0} (step : Step) (l : Link) (a : Air) (v : V) → Asked step (done (Ok v)) l l a a (Ok v)
asked_done step l a v =
    record { performs = performs-none a (Ok (v, l.kept)) l.exchanges; uid = refl; unit = refl }

pub asked_flaw : {V : Type 0} (step : Step) (l : Link) (a : Air) (e : Flaw) (s : Stop) → s ≡ flawed step l.kept e → Asked {V = V} step (done (Err e)) l l a a (Err s)
asked_flaw {V} step l a e s is =
    record { performs = subst (λ z. Performs {V = Result (V × Option Kept) Stop} (answer (Err (flawed step l.kept e))) a a (Err z) l.exchanges l.exchanges) (sym is) (performs-none a (Err (flawed step l.kept e)) l.exchanges); uid = refl; unit = refl }

-- what was read is made something of
pub asked_now : {V : Type 0} (step : Step) (l : Link) (a : Air) (x : Result V Flaw) (r : Result V Stop) → r ≡ stopped step l.kept x → Asked step (done x) l l a a r
asked_now step l a (Ok v) r is = subst (Asked step (done (Ok v)) l l a a) (sym is) (asked_done step l a v)
asked_now step l a (Err e) r is =
    subst (Asked step (done (Err e)) l l a a) (sym is) (asked_flaw step l a e (flawed step l.kept e) refl)

-- a byte of a block that was had
module _ (step : Step) (at : ℕ) (l l' : Link) (a b : Air) where
  pub byte_had : (k : Kept) (n v : ℕ) → n ≡ at / bytes_of l.unit → v ≡ get_or k.bytes (at % bytes_of l.unit) 0 → Had step n l l' a b (Ok k) → Asked step (just_byte at) l l' a b (Ok v)
  byte_had k n v en ev had =
      let u = l.uid.0 in
      let unit = bytes_of l.unit in
      let next = λ (k' : Kept). asking {V = ℕ} step u unit (Some k') (done (Ok (get_or k'.bytes (at % unit) 0))) in
      let block = subst (λ z. Performs (block_of step u unit l.kept z) a b (Ok k) l.exchanges l'.exchanges) en had.performs in
      let is : Ok (get_or k.bytes (at % unit) 0, Some k) ≡ with_kept (Ok v) l'.kept = let x = sym ev in let y = sym had.kept in λ i. Ok (x i, y i) in
      let both = performs_then (block_of step u unit l.kept (at / unit)) (or_stop next) a b b (Ok k) (Ok (get_or k.bytes (at % unit) 0, Some k)) l.exchanges l'.exchanges l'.exchanges block (performs-none b (Ok (get_or k.bytes (at % unit) 0, Some k)) l'.exchanges) in
      record {
        performs = subst (λ z. Performs (bind (block_of step u unit l.kept (at / unit)) (or_stop next)) a b z l.exchanges l'.exchanges) is both;
        uid = had.uid;
        unit = had.unit;
      }

  pub byte-stopped : (s : Stop) (n : ℕ) → n ≡ at / bytes_of l.unit → Had step n l l' a b (Err s) → Asked step (just_byte at) l l' a b (Err s)
  byte-stopped s n en had =
      let u = l.uid.0 in
      let unit = bytes_of l.unit in
      let next = λ (k' : Kept). asking {V = ℕ} step u unit (Some k') (done (Ok (get_or k'.bytes (at % unit) 0))) in
      let block = subst (λ z. Performs (block_of step u unit l.kept z) a b (Err s) l.exchanges l'.exchanges) en had.performs in
      record {
        performs = performs_then (block_of step u unit l.kept (at / unit)) (or_stop next) a b b (Err s) (Err s) l.exchanges l'.exchanges l'.exchanges block (performs-none b (Err s) l'.exchanges);
        uid = had.uid;
        unit = had.unit;
      }

-- a block that was not kept, and is read
pub had_read : {step : Step} {n : ℕ} {l l' : Link} {a b : Air} {r : Result Kept Stop} → kept_at l.kept n ≡ None → BlockRead step n l l' a b r → Had step n l l' a b r
had_read {step} {n} {l} {l'} {a} {b} {r} none x =
    record {
      performs = subst (λ k. Performs (or_reads step l.uid.0 (bytes_of l.unit) n k) a b r l.exchanges l'.exchanges) (sym none) x.performs;
      kept = x.kept;
      uid = x.uid;
      unit = x.unit;
    }

-- the first part stops, under another name for the result
pub and_stops : {V W : Type 0} {step : Step} {x : Asks (Result V Flaw)} {l l' : Link} {a b : Air} {s : Stop} (next : V → Asks (Result W Flaw)) (r : Result W Stop) → r ≡ Err s → Asked step x l l' a b (Err s) → Asked step (and_then x next) l l' a b r
and_stops {V} {W} {step} {x} {l} {l'} {a} {b} {s} next r is first =
    subst (Asked step (and_then x next) l l' a b) (sym is) (and_err step x next l l' a b s first)

pub and_goes : {V W : Type 0} {step : Step} {x : Asks (Result V Flaw)} {l l' l'' : Link} {a b c : Air} {v : V} {r : Result W Stop} (next : V → Asks (Result W Flaw)) → Asked step x l l' a b (Ok v) → Asked step (next v) l' l'' b c r → Asked step (and_then x next) l l'' a c r
and_goes {V} {W} {step} {x} {l} {l'} {l''} {a} {b} {c} {v} {r} next first second = and_ok step x next l l' a b l'' c v r first second

-- of two ways to go on, the one that is taken
pub asked_true : {V : Type 0} {step : Step} {x : Asks (Result V Flaw)} {l l' : Link} {a b : Air} {r : Result V Stop} (t : Bool) (y : Asks (Result V Flaw)) → t ≡ true → Asked step x l l' a b r → Asked step (cond t x y) l l' a b r
asked_true {V} {step} {x} {l} {l'} {a} {b} {r} t y e z = subst (λ w. Asked step (cond w x y) l l' a b r) (sym e) z

pub asked_false : {V : Type 0} {step : Step} {y : Asks (Result V Flaw)} {l l' : Link} {a b : Air} {r : Result V Stop} (t : Bool) (x : Asks (Result V Flaw)) → t ≡ false → Asked step y l l' a b r → Asked step (cond t x y) l l' a b r
asked_false {V} {step} {y} {l} {l'} {a} {b} {r} t x e z = subst (λ w. Asked step (cond w x y) l l' a b r) (sym e) z

-- what is said of a value says nothing of a stop
pub none_made : {V : Type 0} {s : Stop} (P : V → Type 0) (r : Result V Stop) → r ≡ Err s → IfOk r P
none_made {V} {s} P r is = subst (λ z. IfOk z P) (sym is) tt

pub made_weaker : {V : Type 0} {P Q : V → Type 0} (r : Result V Stop) → ((v : V) → P v → Q v) → IfOk r P → IfOk r Q
made_weaker (Ok v) f x = f v x
made_weaker (Err s) f x = tt

-- nothing is asked for, under another name for the value
pub asked_value : {V : Type 0} {v w : V} (step : Step) (l : Link) (a : Air) → w ≡ v → Asked step (done (Ok v)) l l a a (Ok w)
asked_value {V} {v} {w} step l a e = subst (λ z. Asked step (done (Ok v)) l l a a (Ok z)) (sym e) (asked_done step l a v)
