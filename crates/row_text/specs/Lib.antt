pub mod RowWritten
