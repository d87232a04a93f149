-- The circuit on numbers, gate by gate, in the order of the code: on words of 32 bits, and on single bits alike.
use Rattle.std.specs.Prelude.{ℕ, ◌+◌, ◌*◌}
use Rattle.std.specs.Int.Bits.{bit_xor, bit_and}
use Rattle.aes_tables.specs.SBox.{bit}
use Rattle.aes_circuit.specs.declared.Bits.{Bits}
use Rattle.aes_circuit.specs.declared.Linear.{Linear}
use Rattle.aes_circuit.specs.declared.Four.{Four}
use Rattle.aes_circuit.specs.declared.Nine.{Nine}
use Rattle.aes_circuit.specs.declared.Ands.{Ands}

infixl 68 ◌⊻◌
infixl 70 ◌⊗◌
unfoldable pub ◌⊻◌ : ℕ → ℕ → ℕ
◌⊻◌ = bit_xor

unfoldable pub ◌⊗◌ : ℕ → ℕ → ℕ
◌⊗◌ = bit_and

unfoldable pub top_of : Bits → Linear
top_of x =
    let y14 = x.x3 ⊻ x.x5 in
    let y13 = x.x0 ⊻ x.x6 in
    let y9 = x.x0 ⊻ x.x3 in
    let y8 = x.x0 ⊻ x.x5 in
    let t0 = x.x1 ⊻ x.x2 in
    let y1 = t0 ⊻ x.x7 in
    let y4 = y1 ⊻ x.x3 in
    let y12 = y13 ⊻ y14 in
    let y2 = y1 ⊻ x.x0 in
    let y5 = y1 ⊻ x.x6 in
    let y3 = y5 ⊻ y8 in
    let t1 = x.x4 ⊻ y12 in
    let y15 = t1 ⊻ x.x5 in
    let y20 = t1 ⊻ x.x1 in
    let y6 = y15 ⊻ x.x7 in
    let y10 = y15 ⊻ t0 in
    let y11 = y20 ⊻ y9 in
    let y7 = x.x7 ⊻ y11 in
    let y17 = y10 ⊻ y11 in
    let y19 = y10 ⊻ y8 in
    let y16 = t0 ⊻ y11 in
    let y21 = y13 ⊻ y16 in
    let y18 = x.x0 ⊻ y16 in
    record {
      y14 = y14;
      y13 = y13;
      y9 = y9;
      y8 = y8;
      y1 = y1;
      y4 = y4;
      y12 = y12;
      y2 = y2;
      y5 = y5;
      y3 = y3;
      y15 = y15;
      y20 = y20;
      y6 = y6;
      y10 = y10;
      y11 = y11;
      y7 = y7;
      y17 = y17;
      y19 = y19;
      y16 = y16;
      y21 = y21;
      y18 = y18;
    }

unfoldable pub middle_of : ℕ → Linear → Four
middle_of x7 y =
    let t2 = y.y12 ⊗ y.y15 in
    let t3 = y.y3 ⊗ y.y6 in
    let t4 = t3 ⊻ t2 in
    let t5 = y.y4 ⊗ x7 in
    let t6 = t5 ⊻ t2 in
    let t7 = y.y13 ⊗ y.y16 in
    let t8 = y.y5 ⊗ y.y1 in
    let t9 = t8 ⊻ t7 in
    let t10 = y.y2 ⊗ y.y7 in
    let t11 = t10 ⊻ t7 in
    let t12 = y.y9 ⊗ y.y11 in
    let t13 = y.y14 ⊗ y.y17 in
    let t14 = t13 ⊻ t12 in
    let t15 = y.y8 ⊗ y.y10 in
    let t16 = t15 ⊻ t12 in
    let t17 = t4 ⊻ t14 in
    let t18 = t6 ⊻ t16 in
    let t19 = t9 ⊻ t14 in
    let t20 = t11 ⊻ t16 in
    let t21 = t17 ⊻ y.y20 in
    let t22 = t18 ⊻ y.y19 in
    let t23 = t19 ⊻ y.y21 in
    let t24 = t20 ⊻ y.y18 in
    record {
      t21 = t21;
      t22 = t22;
      t23 = t23;
      t24 = t24;
    }

unfoldable pub inverse_of : Four → Nine
inverse_of m =
    let t25 = m.t21 ⊻ m.t22 in
    let t26 = m.t21 ⊗ m.t23 in
    let t27 = m.t24 ⊻ t26 in
    let t28 = t25 ⊗ t27 in
    let t29 = t28 ⊻ m.t22 in
    let t30 = m.t23 ⊻ m.t24 in
    let t31 = m.t22 ⊻ t26 in
    let t32 = t31 ⊗ t30 in
    let t33 = t32 ⊻ m.t24 in
    let t34 = m.t23 ⊻ t33 in
    let t35 = t27 ⊻ t33 in
    let t36 = m.t24 ⊗ t35 in
    let t37 = t36 ⊻ t34 in
    let t38 = t27 ⊻ t36 in
    let t39 = t29 ⊗ t38 in
    let t40 = t25 ⊻ t39 in
    let t41 = t40 ⊻ t37 in
    let t42 = t29 ⊻ t33 in
    let t43 = t29 ⊻ t40 in
    let t44 = t33 ⊻ t37 in
    let t45 = t42 ⊻ t41 in
    record {
      t29 = t29;
      t33 = t33;
      t37 = t37;
      t40 = t40;
      t41 = t41;
      t42 = t42;
      t43 = t43;
      t44 = t44;
      t45 = t45;
    }

unfoldable pub products_of : ℕ → Linear → Nine → Ands
products_of x7 y i =
    record {
      z0 = i.t44 ⊗ y.y15;
      z1 = i.t37 ⊗ y.y6;
      z2 = i.t33 ⊗ x7;
      z3 = i.t43 ⊗ y.y16;
      z4 = i.t40 ⊗ y.y1;
      z5 = i.t29 ⊗ y.y7;
      z6 = i.t42 ⊗ y.y11;
      z7 = i.t45 ⊗ y.y17;
      z8 = i.t41 ⊗ y.y10;
      z9 = i.t44 ⊗ y.y12;
      z10 = i.t37 ⊗ y.y3;
      z11 = i.t33 ⊗ y.y4;
      z12 = i.t43 ⊗ y.y13;
      z13 = i.t40 ⊗ y.y5;
      z14 = i.t29 ⊗ y.y2;
      z15 = i.t42 ⊗ y.y9;
      z16 = i.t45 ⊗ y.y14;
      z17 = i.t41 ⊗ y.y8;
    }

unfoldable pub bottom_of : ℕ → Ands → Bits
bottom_of ones z =
    let t46 = z.z15 ⊻ z.z16 in
    let t47 = z.z10 ⊻ z.z11 in
    let t48 = z.z5 ⊻ z.z13 in
    let t49 = z.z9 ⊻ z.z10 in
    let t50 = z.z2 ⊻ z.z12 in
    let t51 = z.z2 ⊻ z.z5 in
    let t52 = z.z7 ⊻ z.z8 in
    let t53 = z.z0 ⊻ z.z3 in
    let t54 = z.z6 ⊻ z.z7 in
    let t55 = z.z16 ⊻ z.z17 in
    let t56 = z.z12 ⊻ t48 in
    let t57 = t50 ⊻ t53 in
    let t58 = z.z4 ⊻ t46 in
    let t59 = z.z3 ⊻ t54 in
    let t60 = t46 ⊻ t57 in
    let t61 = z.z14 ⊻ t57 in
    let t62 = t52 ⊻ t58 in
    let t63 = t49 ⊻ t58 in
    let t64 = z.z4 ⊻ t59 in
    let t65 = t61 ⊻ t62 in
    let t66 = z.z1 ⊻ t63 in
    let s0 = t59 ⊻ t63 in
    let s6 = t56 ⊻ t62 ⊻ ones in
    let s7 = t48 ⊻ t60 ⊻ ones in
    let t67 = t64 ⊻ t65 in
    let s3 = t53 ⊻ t66 in
    let s4 = t51 ⊻ t66 in
    let s5 = t47 ⊻ t65 in
    let s1 = t64 ⊻ s3 ⊻ ones in
    let s2 = t55 ⊻ t67 ⊻ ones in
    record {
      x0 = s0;
      x1 = s1;
      x2 = s2;
      x3 = s3;
      x4 = s4;
      x5 = s5;
      x6 = s6;
      x7 = s7;
    }

-- the circuit; ones is the number whose digits are all 1
unfoldable pub sbox_of : ℕ → Bits → Bits
sbox_of ones x = let y = top_of x in bottom_of ones (products_of x.x7 y (inverse_of (middle_of x.x7 y)))

-- digit k of each word
unfoldable pub digit_bits : ℕ → Bits → Bits
digit_bits k x =
    record {
      x0 = bit x.x0 k;
      x1 = bit x.x1 k;
      x2 = bit x.x2 k;
      x3 = bit x.x3 k;
      x4 = bit x.x4 k;
      x5 = bit x.x5 k;
      x6 = bit x.x6 k;
      x7 = bit x.x7 k;
    }

-- digit k of each word
unfoldable pub digit_linear : ℕ → Linear → Linear
digit_linear k x =
    record {
      y14 = bit x.y14 k;
      y13 = bit x.y13 k;
      y9 = bit x.y9 k;
      y8 = bit x.y8 k;
      y1 = bit x.y1 k;
      y4 = bit x.y4 k;
      y12 = bit x.y12 k;
      y2 = bit x.y2 k;
      y5 = bit x.y5 k;
      y3 = bit x.y3 k;
      y15 = bit x.y15 k;
      y20 = bit x.y20 k;
      y6 = bit x.y6 k;
      y10 = bit x.y10 k;
      y11 = bit x.y11 k;
      y7 = bit x.y7 k;
      y17 = bit x.y17 k;
      y19 = bit x.y19 k;
      y16 = bit x.y16 k;
      y21 = bit x.y21 k;
      y18 = bit x.y18 k;
    }

-- digit k of each word
unfoldable pub digit_four : ℕ → Four → Four
digit_four k x =
    record {
      t21 = bit x.t21 k;
      t22 = bit x.t22 k;
      t23 = bit x.t23 k;
      t24 = bit x.t24 k;
    }

-- digit k of each word
unfoldable pub digit_nine : ℕ → Nine → Nine
digit_nine k x =
    record {
      t29 = bit x.t29 k;
      t33 = bit x.t33 k;
      t37 = bit x.t37 k;
      t40 = bit x.t40 k;
      t41 = bit x.t41 k;
      t42 = bit x.t42 k;
      t43 = bit x.t43 k;
      t44 = bit x.t44 k;
      t45 = bit x.t45 k;
    }

-- digit k of each word
unfoldable pub digit_ands : ℕ → Ands → Ands
digit_ands k x =
    record {
      z0 = bit x.z0 k;
      z1 = bit x.z1 k;
      z2 = bit x.z2 k;
      z3 = bit x.z3 k;
      z4 = bit x.z4 k;
      z5 = bit x.z5 k;
      z6 = bit x.z6 k;
      z7 = bit x.z7 k;
      z8 = bit x.z8 k;
      z9 = bit x.z9 k;
      z10 = bit x.z10 k;
      z11 = bit x.z11 k;
      z12 = bit x.z12 k;
      z13 = bit x.z13 k;
      z14 = bit x.z14 k;
      z15 = bit x.z15 k;
      z16 = bit x.z16 k;
      z17 = bit x.z17 k;
    }

-- the byte whose bits are the words, each 0 or 1; and the bits of a byte
unfoldable pub byte_of : Bits → ℕ
byte_of x = x.x7 + x.x6 * 2 + x.x5 * 4 + x.x4 * 8 + x.x3 * 16 + x.x2 * 32 + x.x1 * 64 + x.x0 * 128

unfoldable pub bits_of : ℕ → Bits
bits_of n =
    record {
      x0 = bit n 7;
      x1 = bit n 6;
      x2 = bit n 5;
      x3 = bit n 4;
      x4 = bit n 3;
      x5 = bit n 2;
      x6 = bit n 1;
      x7 = bit n 0;
    }

-- the byte that digit k of the eight planes makes, x0 its highest bit
unfoldable pub byte_at : ℕ → Bits → ℕ
byte_at k x = byte_of (digit_bits k x)
