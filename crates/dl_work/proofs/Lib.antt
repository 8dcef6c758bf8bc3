mod Dealing
mod Drawing
mod Fitting
