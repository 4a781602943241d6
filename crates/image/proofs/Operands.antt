-- Numbers in four and in eight bytes, read back.
use Rattle.std.proofs.Common.{◌≡◌, ℕ, ◌+◌, ◌*◌, ◌/◌, ◌%◌, ◌^◌, ◌<◌, ◌≤◌, List, [], ◌∷◌, ◌++◌, length, drop, sym, ap, arith}
use Rattle.image.specs.Decode.{number4, number8}
use Rattle.image.specs.Typed.{Octets}
use Rattle.writer.specs.Written.{be4, be8}

pub number4-be4 : (n : ℕ) (r : List ℕ) → n < 2 ^ 32 → number4 (be4 n ++ r) ≡ n
number4-be4 n r h =
    let a : n / 16777216 % 256 ≡ n / 16777216 = omega arith in
    let b : n / 65536 ≡ n / 16777216 * 256 + n / 65536 % 256 = omega arith in
    let c : n / 256 ≡ n / 65536 * 256 + n / 256 % 256 = omega arith in
    let d : n ≡ n / 256 * 256 + n % 256 = omega arith in
    omega arith

pub number8-be8 : (n : ℕ) (r : List ℕ) → n < 2 ^ 64 → number8 (be8 n ++ r) ≡ n
number8-be8 n r h = omega arith

same4 : {a b c d e f g h : ℕ} → a ≡ e → b ≡ f → c ≡ g → d ≡ h → ◌≡◌ {A = List ℕ} (a ∷ b ∷ c ∷ d ∷ []) (e ∷ f ∷ g ∷ h ∷ [])
same4 p q r s = λ i. p i ∷ q i ∷ r i ∷ s i ∷ []

pub be4_of : (a b c d : ℕ) → a < 256 → b < 256 → c < 256 → d < 256 → be4 (a * 16777216 + b * 65536 + c * 256 + d) ≡ a ∷ b ∷ c ∷ d ∷ []
be4_of a b c d p q r s = same4 (omega arith) (omega arith) (omega arith) (omega arith)

same8 : {a b c d e f g h a' b' c' d' e' f' g' h' : ℕ} → a ≡ a' → b ≡ b' → c ≡ c' → d ≡ d' → e ≡ e' → f ≡ f' → g ≡ g' → h ≡ h' → ◌≡◌ {A = List ℕ} (a ∷ b ∷ c ∷ d ∷ e ∷ f ∷ g ∷ h ∷ []) (a' ∷ b' ∷ c' ∷ d' ∷ e' ∷ f' ∷ g' ∷ h' ∷ [])
same8 p q r s t u v w = λ i. p i ∷ q i ∷ r i ∷ s i ∷ t i ∷ u i ∷ v i ∷ w i ∷ []

pub be8_of : (a b c d e f g h : ℕ) → a < 256 → b < 256 → c < 256 → d < 256 → e < 256 → f < 256 → g < 256 → h < 256 → be8 (a * 72057594037927936 + b * 281474976710656 + c * 1099511627776 + d * 4294967296 + e * 16777216 + f * 65536 + g * 256 + h) ≡ a ∷ b ∷ c ∷ d ∷ e ∷ f ∷ g ∷ h ∷ []
be8_of a b c d e f g h p q r s t u v w = same8 (omega arith) (omega arith) (omega arith) (omega arith) (omega arith) (omega arith) (omega arith) (omega arith)

-- four bytes are what their number is written as
pub spelled4 : (s : List ℕ) → 4 ≤ length s → Octets s → (s ≡ be4 (number4 s) ++ drop 4 s) × (number4 s < 2 ^ 32)
spelled4 [] h o = absurd (let z : ⊥ = omega arith in z)
spelled4 (a ∷ []) h o = absurd (let z : ⊥ = omega arith in z)
spelled4 (a ∷ b ∷ []) h o = absurd (let z : ⊥ = omega arith in z)
spelled4 (a ∷ b ∷ c ∷ []) h o = absurd (let z : ⊥ = omega arith in z)
spelled4 (a ∷ b ∷ c ∷ d ∷ r) h (p, (q, (t, (u, o)))) = (ap (λ f. f ++ r) (sym (be4_of a b c d p q t u)), omega arith)

-- eight likewise
pub spelled8 : (s : List ℕ) → 8 ≤ length s → Octets s → (s ≡ be8 (number8 s) ++ drop 8 s) × (number8 s < 2 ^ 64)
spelled8 [] h o = absurd (let z : ⊥ = omega arith in z)
spelled8 (a ∷ []) h o = absurd (let z : ⊥ = omega arith in z)
spelled8 (a ∷ b ∷ []) h o = absurd (let z : ⊥ = omega arith in z)
spelled8 (a ∷ b ∷ c ∷ []) h o = absurd (let z : ⊥ = omega arith in z)
spelled8 (a ∷ b ∷ c ∷ d ∷ []) h o = absurd (let z : ⊥ = omega arith in z)
spelled8 (a ∷ b ∷ c ∷ d ∷ e ∷ []) h o = absurd (let z : ⊥ = omega arith in z)
spelled8 (a ∷ b ∷ c ∷ d ∷ e ∷ f ∷ []) h o = absurd (let z : ⊥ = omega arith in z)
spelled8 (a ∷ b ∷ c ∷ d ∷ e ∷ f ∷ g ∷ []) h o = absurd (let z : ⊥ = omega arith in z)
spelled8 (a ∷ b ∷ c ∷ d ∷ e ∷ f ∷ g ∷ k ∷ r) h (p, (q, (t, (u, (v, (w, (x, (y, o)))))))) = (ap (λ z. z ++ r) (sym (be8_of a b c d e f g k p q t u v w x y)), omega arith)
